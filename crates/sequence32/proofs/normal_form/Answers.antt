-- `sequence32::normal_form` meets its contract. Assumes nothing.
use Rattle.trailing.specs.View.{trailing_of}
use mathlib.Core.Path.{sym, ap, ◌∙◌}
use native.Mathlib.Omega.{arith}
use Rattle.util_defs.specs.Width.{M}
use Rattle.util_defs.specs.Refusal.{Outcome}
use Rattle.full_defs.specs.Form.{Form, form_for}
use Rattle.full_defs.proofs.Forms.{form_meets}
use Rattle.widths_defs.specs.Low.{mapped, low_form}
use Rattle.widths_defs.specs.Within.{form_within}
use Rattle.widths_defs.proofs.Forms.{form_low}
use Rattle.util_defs.proofs.Refusals.{means}
use Rattle.sequence32.proofs.normal_form.Goals as goal

pub returns-clause-answer : goal.returns-clause-answer
returns-clause-answer c =
    let q = c.wide_tail.ensures in
    let t = trailing_of c.args.layout in c.form_within.ensures ∙ ap (λ (o : Outcome Form). mapped (low_form 32) (form_within (M 32) o)) (c.normal_form.ensures.answer ∙ ap (form_for 64) q.0)
    ∙ sym (form_low 32 64 t (omega arith) q.1)

pub returns-clause-meaning : goal.returns-clause-meaning
returns-clause-meaning c =
    let q = c.wide_tail.ensures in
    let t = trailing_of c.args.layout in means (form_meets 32 t q.1.word) (returns-clause-answer c)
