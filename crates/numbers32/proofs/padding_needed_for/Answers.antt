-- `numbers32::padding_needed_for` meets its contract. Assumes nothing.
use mathlib.Core.Path.{sym, ap, ◌∙◌}
use native.Mathlib.Omega.{arith}
use Rattle.util_defs.proofs.Refusals.{means}
use Rattle.util_defs.proofs.Helpers.{padding_meets}
use Rattle.widths_defs.specs.Low.{mapped, low}
use Rattle.widths_defs.proofs.Helpers.{padding_low}
use Rattle.numbers32.proofs.padding_needed_for.Goals as goal

pub returns-clause-answer : goal.returns-clause-answer
returns-clause-answer c =
    let n = c.args.len in
    let a = c.args.align in c.low_number.ensures ∙ ap (mapped (low 32)) c.padding_needed_for.ensures.answer ∙ sym (padding_low 32 64 n a (omega arith) (omega arith))

pub returns-clause-meaning : goal.returns-clause-meaning
returns-clause-meaning c =
    let n = c.args.len in
    let a = c.args.align in means (padding_meets 32 n a (omega arith)) (returns-clause-answer c)
