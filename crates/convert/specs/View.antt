-- What the types of this crate are, over numbers: document 01's number and values for each case of an answer. Assumes nothing.
use Rattle.std.specs.Prelude.{ℕ, Result}
use Rattle.util.specs.View.{says}
use Rattle.util.specs.declared.refusal.Refusal.{Refusal}
use Rattle.std.specs.Prelude.{ℕ}
use Rattle.util_defs.specs.Refusal.{Outcome, answered, refused}
use Rattle.convert_defs.specs.Convert as Convert
use Rattle.convert_defs.specs.Convert.{Params}
use Rattle.convert.specs.declared.CastParamsInner.{CastParamsInner}
use Rattle.convert.specs.declared.CastParamsInner.TheVariants as Inner

abbrev pub params_in : CastParamsInner ℕ → Params
params_in (Inner.UnsizedToUnsized d k) = Convert.unsized_to_unsized d k
params_in (Inner.SizedToUnsized n) = Convert.sized_to_unsized n
params_in Inner.SizedToSized = Convert.sized_to_sized

abbrev pub compute_says : Result (CastParamsInner ℕ) Refusal → Outcome Params
compute_says = says params_in
