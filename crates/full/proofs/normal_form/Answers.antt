-- `full::normal_form` meets its contract. Assumes nothing.
use Rattle.util.proofs.Told.{handed_on}
use mathlib.Core.Path.{ap, ◌∙◌}
use native.Mathlib.Omega.{arith}
use Rattle.rounding.proofs.Words.{word_stop}
use Rattle.trailing.proofs.Told.{decoded_told, decoded_refused}
use Rattle.trailing.specs.View.{trailing_of}
use Rattle.full_defs.specs.Form.{form_for}
use Rattle.full_defs.proofs.Forms.{form_meets}
use Rattle.util_defs.proofs.Refusals.{means}
use Rattle.full.proofs.normal_form.Goals as goal

pub returns-clause-answer : goal.returns-clause-answer
returns-clause-answer c = c.decoded_form.ensures ∙ ap (λ l. form_for 64 (trailing_of l)) (decoded_told c.decoded.result c.decoded.ensures c.in_ok-decoded.was)

pub returns-clause-meaning : goal.returns-clause-meaning
returns-clause-meaning c = means (form_meets 64 (trailing_of c.args.layout) (omega arith)) (returns-clause-answer c)

pub returns-in_err-decoded-clause-answer : goal.returns-in_err-decoded-clause-answer
unfolding form_for
returns-in_err-decoded-clause-answer c = handed_on _ c.from_residual.result _ c.from_residual.ensures.1 (word_stop _ _ (decoded_refused c.decoded.result c.decoded.ensures c.in_err-decoded.was))

pub returns-in_err-decoded-clause-meaning : goal.returns-in_err-decoded-clause-meaning
returns-in_err-decoded-clause-meaning c = means (form_meets 64 (trailing_of c.args.layout) (omega arith)) (returns-in_err-decoded-clause-answer c)
