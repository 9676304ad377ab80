-- `record::layout_from_words` meets its contract. Assumes nothing.
use mathlib.Core.Path.{sym, ◌∙◌}
use borrow.Author.Tests.{lt-ltb, le-ltb, eq-eqb, ne_eqb}
use Prim.Native.Nat.{◌/◌, ◌%◌}
use native.Mathlib.Omega.{arith}
use Rattle.util_defs.specs.Refusal.{unless}
use Rattle.record_defs.specs.Record.{words_for}
use Rattle.record.specs.View.{words_in}
use Rattle.record_defs.proofs.Records.{words_meets}
use Rattle.util_defs.proofs.Refusals.{means}
use Rattle.record.proofs.layout_from_words.Goals as goal

pub returns-then-kind-gt-GREATEST_KIND-clause-answer : goal.returns-then-kind-gt-GREATEST_KIND-clause-answer
unfolding words_for unless
returns-then-kind-gt-GREATEST_KIND-clause-answer c = simp (lt-ltb 7 c.args.words.kind c.if-kind-gt-GREATEST_KIND.true)

pub returns-then-kind-gt-GREATEST_KIND-clause-meaning : goal.returns-then-kind-gt-GREATEST_KIND-clause-meaning
returns-then-kind-gt-GREATEST_KIND-clause-meaning c = means (words_meets 64 (words_in c.args.words) (omega arith)) (returns-then-kind-gt-GREATEST_KIND-clause-answer c)

pub returns-then-later_words_zero-clause-answer : goal.returns-then-later_words_zero-clause-answer
unfolding words_for unless
returns-then-later_words_zero-clause-answer c = simp (le-ltb 7 c.args.words.kind (omega (arith, c.if-kind-gt-GREATEST_KIND.false)), sym c.is_power_of_two.ensures.answer ∙ c.if-is_power_of_two.true, eq-eqb (c.args.words.kind / 2 % 2) 0 c.if-kind-eq0.true, sym c.later_words_zero.ensures ∙ c.if-later_words_zero.true)

pub returns-then-later_words_zero-clause-meaning : goal.returns-then-later_words_zero-clause-meaning
returns-then-later_words_zero-clause-meaning c = means (words_meets 64 (words_in c.args.words) (omega arith)) (returns-then-later_words_zero-clause-answer c)

pub returns-then-kind-eq0-clause-answer : goal.returns-then-kind-eq0-clause-answer
unfolding words_for unless
returns-then-kind-eq0-clause-answer c = simp (le-ltb 7 c.args.words.kind (omega (arith, c.if-kind-gt-GREATEST_KIND.false)), sym c.is_power_of_two.ensures.answer ∙ c.if-is_power_of_two.true, eq-eqb (c.args.words.kind / 2 % 2) 0 c.if-kind-eq0.true, sym c.later_words_zero.ensures ∙ c.if-later_words_zero.false)

pub returns-then-kind-eq0-clause-meaning : goal.returns-then-kind-eq0-clause-meaning
returns-then-kind-eq0-clause-meaning c = means (words_meets 64 (words_in c.args.words) (omega arith)) (returns-then-kind-eq0-clause-answer c)

pub returns-then-word-eq0-clause-answer : goal.returns-then-word-eq0-clause-answer
unfolding words_for unless
returns-then-word-eq0-clause-answer c = simp (le-ltb 7 c.args.words.kind (omega (arith, c.if-kind-gt-GREATEST_KIND.false)), sym c.is_power_of_two.ensures.answer ∙ c.if-is_power_of_two.true, ne_eqb (c.args.words.kind / 2 % 2) 0 c.if-kind-eq0.false, eq-eqb c.args.words.word 0 c.if-word-eq0.true)

pub returns-then-word-eq0-clause-meaning : goal.returns-then-word-eq0-clause-meaning
returns-then-word-eq0-clause-meaning c = means (words_meets 64 (words_in c.args.words) (omega arith)) (returns-then-word-eq0-clause-answer c)

pub returns-then-is_power_of_two-clause-answer : goal.returns-then-is_power_of_two-clause-answer
unfolding words_for unless
returns-then-is_power_of_two-clause-answer c = simp (le-ltb 7 c.args.words.kind (omega (arith, c.if-kind-gt-GREATEST_KIND.false)), sym c.is_power_of_two.ensures.answer ∙ c.if-is_power_of_two.true, ne_eqb (c.args.words.kind / 2 % 2) 0 c.if-kind-eq0.false, ne_eqb c.args.words.word 0 c.if-word-eq0.false)

pub returns-then-is_power_of_two-clause-meaning : goal.returns-then-is_power_of_two-clause-meaning
returns-then-is_power_of_two-clause-meaning c = means (words_meets 64 (words_in c.args.words) (omega arith)) (returns-then-is_power_of_two-clause-answer c)

pub returns-clause-answer : goal.returns-clause-answer
unfolding words_for unless
returns-clause-answer c = simp (le-ltb 7 c.args.words.kind (omega (arith, c.if-kind-gt-GREATEST_KIND.false)), sym c.is_power_of_two.ensures.answer ∙ c.if-is_power_of_two.false)

pub returns-clause-meaning : goal.returns-clause-meaning
returns-clause-meaning c = means (words_meets 64 (words_in c.args.words) (omega arith)) (returns-clause-answer c)
