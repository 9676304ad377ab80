-- `guarantee32::converted_count` meets its contract. Assumes nothing.
use Prim.Native.Nat.{ℕ}
use Rattle.convert.specs.declared.CastParamsInner.{CastParamsInner}
use Rattle.util.specs.declared.refusal.Refusal.{Refusal}
use Rattle.std.specs.Prelude.{Result}
use Rattle.util.proofs.Told.{handed_on}
use Rattle.convert.specs.View.{compute_says}
use mathlib.Core.Path.{sym, ap, ◌∙◌}
use Rattle.guarantee.specs.Demand.{count_after}
use Rattle.guarantee32.proofs.converted_count.Goals as goal

pub returns : goal.returns
returns c =
    c.cast_metadata.ensures.answer ∙ ap (λ (a : Result (CastParamsInner ℕ) Refusal). count_after 32 (compute_says a) c.args.src_meta) (sym c.in_ok-params.was)

pub returns-in_err-params : goal.returns-in_err-params
returns-in_err-params c =
    handed_on _ c.from_residual.result _ c.from_residual.ensures.1 (ap (λ (a : Result (CastParamsInner ℕ) Refusal). count_after 32 (compute_says a) c.args.src_meta) (sym c.in_err-params.was))
