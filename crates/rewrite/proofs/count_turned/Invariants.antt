-- The loops of the function.
use Prim.Native.Nat.{◌-◌}
use lib.ListN.{length}
use Rattle.rewrite.specs.View.{way_of}
use Rattle.rewrite.proofs.Loops.{Counting}
use Rattle.rewrite.proofs.count_turned.Given as goal

abbrev pub invariant-loop-at : goal.invariant-loop-at
invariant-loop-at l = Counting (way_of l.way) l.s l.at l.turned

abbrev pub decreases-loop-at : goal.decreases-loop-at
decreases-loop-at l = length l.s - l.at
