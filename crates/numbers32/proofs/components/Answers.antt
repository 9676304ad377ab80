-- `numbers32::components` meets its contract. Assumes nothing.
use Rattle.rounding.specs.View.{word_of}
use mathlib.Core.Path.{sym, ap, ◌∙◌}
use native.Mathlib.Omega.{arith}
use Rattle.util_defs.proofs.Refusals.{means}
use Rattle.rounding.proofs.Words.{components_meets}
use Rattle.widths_defs.specs.Low.{mapped, low_parts}
use Rattle.widths_defs.proofs.Words.{components_low}
use Rattle.numbers32.proofs.components.Goals as goal

pub returns-clause-answer : goal.returns-clause-answer
returns-clause-answer c =
    let n = word_of c.args.word in c.low_components.ensures ∙ ap (mapped (low_parts 32)) c.components.ensures.answer ∙ sym (components_low 32 64 n (omega arith) (omega arith))

pub returns-clause-meaning : goal.returns-clause-meaning
returns-clause-meaning c =
    let n = word_of c.args.word in means (components_meets 32 n (omega arith)) (returns-clause-answer c)
