-- `numbers32::new` meets its contract. Assumes nothing.
use mathlib.Core.Path.{sym, ap, ◌∙◌}
use native.Mathlib.Omega.{arith}
use Rattle.util_defs.proofs.Refusals.{means}
use Rattle.rounding.proofs.Words.{new_meets}
use Rattle.widths_defs.specs.Low.{mapped, low}
use Rattle.widths_defs.proofs.Words.{new_low}
use Rattle.numbers32.proofs.new.Goals as goal

pub returns-clause-answer : goal.returns-clause-answer
returns-clause-answer c =
    let a = c.args.align in
    let q = c.args.phase in c.low_new.ensures ∙ ap (mapped (low 32)) c.new.ensures.answer ∙ sym (new_low 32 64 a q (omega arith) (omega arith))

pub returns-clause-meaning : goal.returns-clause-meaning
returns-clause-meaning c =
    let a = c.args.align in
    let q = c.args.phase in means (new_meets 32 a q (omega arith)) (returns-clause-answer c)
