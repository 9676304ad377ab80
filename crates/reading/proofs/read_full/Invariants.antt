-- What was read lies within the room, and each turn leaves less of it.
use Rattle.std.proofs.Common.{◌≤◌, ◌-◌, length}
use Rattle.reading.proofs.read_full.Given as goal

abbrev pub invariant-loop-done : goal.invariant-loop-done
invariant-loop-done g l = l.done ≤ length l.room

abbrev pub decreases-loop-done : goal.decreases-loop-done
decreases-loop-done g l = length l.room - l.done
