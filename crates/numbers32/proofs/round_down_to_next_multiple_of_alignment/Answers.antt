-- `numbers32::round_down_to_next_multiple_of_alignment` meets its contract. Assumes nothing.
use mathlib.Core.Path.{sym, ap, ◌∙◌}
use native.Mathlib.Omega.{arith}
use Rattle.util_defs.proofs.Refusals.{means}
use Rattle.util_defs.proofs.Helpers.{down_meets}
use Rattle.widths_defs.specs.Low.{mapped, low}
use Rattle.widths_defs.proofs.Helpers.{down_low}
use Rattle.numbers32.proofs.round_down_to_next_multiple_of_alignment.Goals as goal

pub returns-clause-answer : goal.returns-clause-answer
returns-clause-answer c =
    let n = c.args.n in
    let a = c.args.align in c.low_number.ensures ∙ ap (mapped (low 32)) c.round_down_to_next_multiple_of_alignment.ensures.answer ∙ sym (down_low 32 64 n a (omega arith) (omega arith) (omega arith))

pub returns-clause-meaning : goal.returns-clause-meaning
returns-clause-meaning c =
    let n = c.args.n in
    let a = c.args.align in means (down_meets 32 n a (omega arith)) (returns-clause-answer c)
