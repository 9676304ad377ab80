-- `compose::step_of_trailing` meets its contract. Assumes nothing.
use mathlib.Core.Path.{sym, ◌∙◌}
use Rattle.layout.specs.View.{layout_of, sized_of}
use Rattle.compose_defs.proofs.Compositions.{step_on, step_off}
use Rattle.compose.proofs.step_of_trailing.Goals as goal

pub returns-then-at_odds : goal.returns-then-at_odds
returns-then-at_odds c = sym (step_off 64 c.args.heed c.args.repr_packed (sized_of c.args.own) (layout_of c.args.field) (sym c.at_odds.ensures ∙ c.if-at_odds.true))

pub returns-else-at_odds : goal.returns-else-at_odds
returns-else-at_odds c = c.extend_sized.ensures.answer ∙ sym (step_on 64 c.args.heed c.args.repr_packed (sized_of c.args.own) (layout_of c.args.field) (sym c.at_odds.ensures ∙ c.if-at_odds.false))
