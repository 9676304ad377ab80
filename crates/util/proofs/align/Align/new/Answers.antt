-- `util::Align::new` meets its contract. Assumes nothing.
use Rattle.std.proofs.Common.{refl, sym, ◌∙◌}
use Rattle.util_defs.specs.Refusal.{unless}
use Rattle.util_defs.specs.Helpers.{align_causes}
use Rattle.util_defs.proofs.Refusals.{means, meets}
use Rattle.util_defs.proofs.Helpers.{align_decided}
use Rattle.util.proofs.align.Align.new.Goals as goal

pub returns-then-is_power_of_two-clause-answer : goal.returns-then-is_power_of_two-clause-answer
unfolding unless
returns-then-is_power_of_two-clause-answer c = simp (sym c.is_power_of_two.ensures.answer ∙ c.if-is_power_of_two.true)

pub returns-then-is_power_of_two-clause-meaning : goal.returns-then-is_power_of_two-clause-meaning
returns-then-is_power_of_two-clause-meaning c =
    let a = c.args.value in
    means (meets (align_causes 64 a) a (align_decided 64 a c.ranges.value.fits, λ _. tt) (λ _. refl)) (returns-then-is_power_of_two-clause-answer c)

pub returns-else-is_power_of_two-clause-answer : goal.returns-else-is_power_of_two-clause-answer
unfolding unless
returns-else-is_power_of_two-clause-answer c = simp (sym c.is_power_of_two.ensures.answer ∙ c.if-is_power_of_two.false)

pub returns-else-is_power_of_two-clause-meaning : goal.returns-else-is_power_of_two-clause-meaning
returns-else-is_power_of_two-clause-meaning c =
    let a = c.args.value in
    means (meets (align_causes 64 a) a (align_decided 64 a c.ranges.value.fits, λ _. tt) (λ _. refl)) (returns-else-is_power_of_two-clause-answer c)
