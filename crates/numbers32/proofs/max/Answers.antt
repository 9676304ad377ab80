-- `numbers32::max` meets its contract. Assumes nothing.
use mathlib.Core.Path.{sym, ap, ◌∙◌}
use native.Mathlib.Omega.{arith}
use Rattle.util_defs.proofs.Refusals.{means}
use Rattle.util_defs.proofs.Helpers.{max_meets}
use Rattle.widths_defs.specs.Low.{mapped, low}
use Rattle.widths_defs.proofs.Helpers.{max_low}
use Rattle.numbers32.proofs.max.Goals as goal

pub returns-clause-answer : goal.returns-clause-answer
returns-clause-answer c =
    let a = c.args.a in
    let b = c.args.b in c.low_number.ensures ∙ ap (mapped (low 32)) c.max.ensures.answer ∙ sym (max_low 32 64 a b (omega arith) (omega arith) (omega arith))

pub returns-clause-meaning : goal.returns-clause-meaning
returns-clause-meaning c =
    let a = c.args.a in
    let b = c.args.b in means (max_meets 32 a b (omega arith) (omega arith)) (returns-clause-answer c)
