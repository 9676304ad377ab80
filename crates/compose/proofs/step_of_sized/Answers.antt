-- `compose::step_of_sized` meets its contract. Assumes nothing.
use mathlib.Core.Path.{sym, ◌∙◌}
use Rattle.layout.specs.View.{layout_of, sized_of}
use Rattle.layout_defs.proofs.Layouts.{fixed_accepted}
use Rattle.layout_defs.proofs.Onto.{onto_extend}
use Rattle.compose_defs.proofs.Compositions.{step_on, step_off}
use Rattle.compose.proofs.step_of_sized.Goals as goal

pub returns-then-at_odds : goal.returns-then-at_odds
returns-then-at_odds c = sym (step_off 64 c.args.heed c.args.repr_packed (sized_of c.args.own) (layout_of c.args.field) (sym c.at_odds.ensures ∙ c.if-at_odds.true))

pub returns-else-at_odds : goal.returns-else-at_odds
returns-else-at_odds c = let own = c.args.own in c.extend_onto.ensures ∙ onto_extend 64 (sized_of own) (layout_of c.args.field) c.args.repr_packed (fixed_accepted 64 own.align own.size own.statically_shallow_unpadded own.align_modifier c.requires) ∙ sym (step_on 64 c.args.heed c.args.repr_packed (sized_of own) (layout_of c.args.field) (sym c.at_odds.ensures ∙ c.if-at_odds.false))
