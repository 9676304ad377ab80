-- `rounding::RoundingAlignAndPhase::new` meets its contract. Assumes nothing.
use mathlib.Core.Path.{sym, ◌∙◌}
use native.Mathlib.Omega.{arith}
use borrow.Author.Tests.{le-leb, lt-leb}
use Rattle.util_defs.specs.Refusal.{unless}
use Rattle.util_defs.proofs.Refusals.{means, yes}
use Rattle.util_defs.proofs.Powers.{double}
use Rattle.rounding.specs.Word.{new_for}
use Rattle.rounding.proofs.Words.{new_meets}
use Rattle.rounding.proofs.RoundingAlignAndPhase+u64.new.Goals as goal

pub overflow_add-result : goal.overflow_add-result
overflow_add-result c =
    omega (arith, double 64 (yes c.is_power_of_two.ensures.meaning c.if-is_power_of_two.true) c.ranges.align.fits)

pub returns-then-phase-align-clause-answer : goal.returns-then-phase-align-clause-answer
unfolding new_for unless
returns-then-phase-align-clause-answer c = simp (sym c.is_power_of_two.ensures.answer ∙ c.if-is_power_of_two.true, lt-leb c.args.align c.args.phase c.if-phase-align.true)

pub returns-then-phase-align-clause-meaning : goal.returns-then-phase-align-clause-meaning
returns-then-phase-align-clause-meaning c = means (new_meets 64 c.args.align c.args.phase c.ranges.align.fits) (returns-then-phase-align-clause-answer c)

pub returns-else-phase-align-clause-answer : goal.returns-else-phase-align-clause-answer
unfolding new_for unless
returns-else-phase-align-clause-answer c = simp (sym c.is_power_of_two.ensures.answer ∙ c.if-is_power_of_two.true, le-leb c.args.align c.args.phase c.if-phase-align.false)

pub returns-else-phase-align-clause-meaning : goal.returns-else-phase-align-clause-meaning
returns-else-phase-align-clause-meaning c = means (new_meets 64 c.args.align c.args.phase c.ranges.align.fits) (returns-else-phase-align-clause-answer c)

pub returns-else-is_power_of_two-clause-answer : goal.returns-else-is_power_of_two-clause-answer
unfolding new_for unless
returns-else-is_power_of_two-clause-answer c = simp (sym c.is_power_of_two.ensures.answer ∙ c.if-is_power_of_two.false)

pub returns-else-is_power_of_two-clause-meaning : goal.returns-else-is_power_of_two-clause-meaning
returns-else-is_power_of_two-clause-meaning c = means (new_meets 64 c.args.align c.args.phase c.ranges.align.fits) (returns-else-is_power_of_two-clause-answer c)
