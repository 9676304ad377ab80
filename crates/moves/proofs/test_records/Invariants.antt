-- The loops of the function.
use mathlib.Core.Path.{◌≡◌}
use Prim.Native.Nat.{◌/◌}
use lib.ListN.{length}
use Rattle.short_defs.specs.Moves.{tested}
use Rattle.moves.proofs.test_records.Given as goal

abbrev pub invariant-loop-i : goal.invariant-loop-i
invariant-loop-i g l = (l.i-iterator.iter.size ≡ g.W.RecordMove.way.from)
    × (tested g.W.RecordMove.way l.i-iterator.count (length l.i-iterator.iter.rest.now / g.W.RecordMove.way.from) l.i-iterator.iter.rest.now ≡ tested g.W.RecordMove.way 0 (length l.records / g.W.RecordMove.way.from) l.records)
