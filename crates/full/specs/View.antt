-- What the types of this crate are, over numbers: document 02's number and values for each case of an answer. Assumes nothing.
use Rattle.std.specs.Prelude.{ℕ, Result}
use Rattle.util.specs.View.{says}
use Rattle.util.specs.declared.refusal.Refusal.{Refusal}
use Rattle.util_defs.specs.Refusal.{Outcome}
use Rattle.full_defs.specs.Form.{Form}
use Rattle.full.specs.declared.NormalForm.{NormalForm}

abbrev pub form_in : NormalForm ℕ → Form
form_in f = record { base = f.size_base; word = f.size_rounding_align_and_phase.0; elem = f.elem_size }

abbrev pub form_says : Result (NormalForm ℕ) Refusal → Outcome Form
form_says = says form_in
