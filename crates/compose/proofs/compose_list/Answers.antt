-- `compose::compose_list` meets its contract. Assumes nothing.
use mathlib.Core.Path.{sym, ◌∙◌}
use Rattle.compose_defs.proofs.Compositions.{compose_whole, compose_length}
use Rattle.compose.proofs.compose_list.Goals as goal

pub returns-then-members-eq0 : goal.returns-then-members-eq0
returns-then-members-eq0 g c = c.compose_records.ensures ∙ sym (compose_whole g.W.Steps.bits c.args.heed (g.W.Steps.number c.args.repr_align) (g.W.Steps.number c.args.repr_packed) c.args.members.now c.if-members-eq0.true)

pub returns-else-members-eq0 : goal.returns-else-members-eq0
returns-else-members-eq0 g c = sym (compose_length g.W.Steps.bits c.args.heed (g.W.Steps.number c.args.repr_align) (g.W.Steps.number c.args.repr_packed) c.args.members.now c.if-members-eq0.false)
