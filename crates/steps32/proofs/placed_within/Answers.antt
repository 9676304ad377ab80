-- `steps32::placed_within` meets its contract. Assumes nothing.
use mathlib.Core.Path.{sym, ◌∙◌}
use borrow.Author.Tests.{le-leb, lt-leb}
use Rattle.steps32.proofs.placed_within.Goals as goal

pub returns-then-info_within : goal.returns-then-info_within
returns-then-info_within c = simp (le-leb _ _ c.if-place-max.true, sym c.info_within.ensures ∙ c.if-info_within.true)

pub returns-else-info_within : goal.returns-else-info_within
returns-else-info_within c = simp (le-leb _ _ c.if-place-max.true, sym c.info_within.ensures ∙ c.if-info_within.false)

pub returns-else-place-max : goal.returns-else-place-max
returns-else-place-max c = simp (lt-leb _ _ c.if-place-max.false)
