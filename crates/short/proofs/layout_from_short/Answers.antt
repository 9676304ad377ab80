-- `short::layout_from_short` meets its contract. Assumes nothing.
use mathlib.Core.Path.{ap, ◌∙◌}
use native.Mathlib.Omega.{arith}
use borrow.Author.Tests.{lt-ltb, le-ltb, eq-eqb, ne_eqb}
use Rattle.util_defs.specs.Refusal.{unless}
use Rattle.record_defs.specs.Record.{words_for}
use Rattle.short_defs.proofs.Told.{short_words_for}
use Rattle.short.specs.View.{short_in}
use Rattle.short.proofs.layout_from_short.Goals as goal

pub returns-then-r-gt-GREATEST_KIND : goal.returns-then-r-gt-GREATEST_KIND
unfolding unless
returns-then-r-gt-GREATEST_KIND c = simp (lt-ltb 7 c.args.r.kind c.if-r-gt-GREATEST_KIND.true)

pub returns-then-r-ne0 : goal.returns-then-r-ne0
unfolding unless
returns-then-r-ne0 c = simp (le-ltb 7 c.args.r.kind (omega (arith, c.if-r-gt-GREATEST_KIND.false)), ne_eqb c.args.r.spare 0 c.if-r-ne0.true)

pub returns-then-r-gt-GREATEST_POWER : goal.returns-then-r-gt-GREATEST_POWER
unfolding unless
returns-then-r-gt-GREATEST_POWER c = simp (le-ltb 7 c.args.r.kind (omega (arith, c.if-r-gt-GREATEST_KIND.false)), eq-eqb c.args.r.spare 0 (omega (arith, c.if-r-ne0.false)), lt-ltb 63 c.args.r.power c.if-r-gt-GREATEST_POWER.true)

pub returns : goal.returns
returns c = let r = short_in c.args.r in c.layout_from_words.ensures.answer ∙ ap (words_for 64) c.words_of.ensures ∙ short_words_for r (omega (arith, c.if-r-gt-GREATEST_KIND.false)) (omega (arith, c.if-r-ne0.false)) (omega (arith, c.if-r-gt-GREATEST_POWER.false))
