-- `numbers32::is_power_of_two` meets its contract. Assumes nothing.
use mathlib.Core.Path.{sym, ◌∙◌}
use native.Mathlib.Omega.{arith}
use Rattle.widths_defs.proofs.Widths.{same_power}
use Rattle.numbers32.proofs.is_power_of_two.Goals as goal

pub returns-clause-answer : goal.returns-clause-answer
returns-clause-answer c = c.is_power_of_two.ensures.answer ∙ sym (same_power 32 64 c.args.a (omega arith) (omega arith))

pub returns-clause-meaning : goal.returns-clause-meaning
returns-clause-meaning c = c.is_power_of_two.ensures.meaning
