-- `compose::for_repr_c_struct_strict` meets its contract. Assumes nothing.
use Rattle.compose_defs.proofs.Strict.{list_means}
use Rattle.compose.proofs.for_repr_c_struct_strict.Goals as goal

pub returns-clause-answer : goal.returns-clause-answer
returns-clause-answer g c = c.struct_of_list.ensures

pub returns-clause-meaning : goal.returns-clause-meaning
returns-clause-meaning g c = list_means g.W.Steps.bits (g.W.Steps.number c.args.repr_align) (g.W.Steps.number c.args.repr_packed) c.args.members.now c.struct_of_list.ensures
