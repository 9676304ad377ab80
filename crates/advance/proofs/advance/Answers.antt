-- `advance::advance` meets its contract. Assumes nothing.
use Rattle.util.proofs.Told.{handed_on}
use mathlib.Core.Path.{ap, ◌∙◌}
use native.Mathlib.Omega.{arith}
use Rattle.rounding.proofs.Words.{word_stop}
use Rattle.trailing.proofs.Told.{decoded_told, decoded_refused}
use Rattle.trailing_defs.specs.Calls.{advance_for}
use Rattle.trailing.specs.View.{trailing_of}
use Rattle.trailing_defs.proofs.Calls.{advance_meets}
use Rattle.util_defs.proofs.Refusals.{means}
use Rattle.advance.proofs.advance.Goals as goal

pub returns-clause-answer : goal.returns-clause-answer
returns-clause-answer c = c.advance_decoded.ensures ∙ ap (λ l. advance_for 64 (trailing_of l) c.args.bytes c.args.elem_size) (decoded_told c.decoded.result c.decoded.ensures c.in_ok-decoded.was)

pub returns-clause-meaning : goal.returns-clause-meaning
returns-clause-meaning c = means (advance_meets 64 (trailing_of c.args.tail) c.args.bytes c.args.elem_size (omega arith)) (returns-clause-answer c)

pub returns-in_err-decoded-clause-answer : goal.returns-in_err-decoded-clause-answer
unfolding advance_for
returns-in_err-decoded-clause-answer c = handed_on _ c.from_residual.result _ c.from_residual.ensures.1 (word_stop _ _ (decoded_refused c.decoded.result c.decoded.ensures c.in_err-decoded.was))

pub returns-in_err-decoded-clause-meaning : goal.returns-in_err-decoded-clause-meaning
returns-in_err-decoded-clause-meaning c = means (advance_meets 64 (trailing_of c.args.tail) c.args.bytes c.args.elem_size (omega arith)) (returns-in_err-decoded-clause-answer c)
