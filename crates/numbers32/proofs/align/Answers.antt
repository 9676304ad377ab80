-- `numbers32::align` meets its contract. Assumes nothing.
use Rattle.rounding.specs.View.{word_of}
use mathlib.Core.Path.{sym, ap, ◌∙◌}
use native.Mathlib.Omega.{arith}
use Rattle.util_defs.proofs.Refusals.{means}
use Rattle.rounding.proofs.Words.{align_meets}
use Rattle.widths_defs.specs.Low.{mapped, low}
use Rattle.widths_defs.proofs.Words.{align_low}
use Rattle.numbers32.proofs.align.Goals as goal

pub returns-clause-answer : goal.returns-clause-answer
returns-clause-answer c =
    let n = word_of c.args.word in c.low_number.ensures ∙ ap (mapped (low 32)) c.align.ensures.answer ∙ sym (align_low 32 64 n (omega arith) (omega arith))

pub returns-clause-meaning : goal.returns-clause-meaning
returns-clause-meaning c =
    let n = word_of c.args.word in means (align_meets 32 n (omega arith)) (returns-clause-answer c)
