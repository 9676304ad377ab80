-- `working::begin` meets its contract. Assumes nothing.
use Rattle.compose_defs.proofs.Typed.{begins}
use Rattle.working.proofs.begin.Goals as goal

pub returns-clause-answer : goal.returns-clause-answer
returns-clause-answer g c = c.new_zst.ensures

pub returns-clause-meaning : goal.returns-clause-meaning
returns-clause-meaning g c = begins g.W.Steps.bits (g.W.Steps.number c.args.repr_align) c.new_zst.ensures
