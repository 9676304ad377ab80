-- The loops of the function.
use Rattle.short_defs.proofs.Lists.{Writing}
use Rattle.moves.proofs.write_records.Given as goal

abbrev pub invariant-loop-i : goal.invariant-loop-i
invariant-loop-i g l = Writing g.W.RecordMove.way g.met.W.RecordMove.proper.whole l.count l.i l.records l.initial.out l.out
