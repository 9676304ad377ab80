-- `trailing::TrailingSliceLayout::max_trailing_bytes` meets its contract. Assumes nothing.
use Rattle.util.proofs.Told.{handed_on}
use Rattle.std.proofs.Common.{ap, ◌∙◌, arith}
use Rattle.rounding.proofs.Words.{word_stop}
use Rattle.trailing.proofs.Told.{decoded_told, decoded_refused}
use Rattle.trailing_defs.specs.Calls.{max_trailing_for}
use Rattle.trailing.specs.View.{trailing_of}
use Rattle.trailing_defs.proofs.Calls.{max_trailing_meets}
use Rattle.util_defs.proofs.Refusals.{means}
use Rattle.trailing.proofs.TrailingSliceLayout+u64.max_trailing_bytes.Goals as goal

pub returns-clause-answer : goal.returns-clause-answer
returns-clause-answer c = c.max_trailing_bytes.ensures ∙ ap (λ l. max_trailing_for 64 (trailing_of l) c.args.available_bytes) (decoded_told c.decoded.result c.decoded.ensures c.in_ok-decoded.was)

pub returns-clause-meaning : goal.returns-clause-meaning
returns-clause-meaning c = means (max_trailing_meets 64 (trailing_of c.args.self) c.args.available_bytes (omega arith)) (returns-clause-answer c)

pub returns-in_err-decoded-clause-answer : goal.returns-in_err-decoded-clause-answer
unfolding max_trailing_for
returns-in_err-decoded-clause-answer c = handed_on _ c.from_residual.result _ c.from_residual.ensures.1 (word_stop _ _ (decoded_refused c.decoded.result c.decoded.ensures c.in_err-decoded.was))

pub returns-in_err-decoded-clause-meaning : goal.returns-in_err-decoded-clause-meaning
returns-in_err-decoded-clause-meaning c = means (max_trailing_meets 64 (trailing_of c.args.self) c.args.available_bytes (omega arith)) (returns-in_err-decoded-clause-answer c)
