-- The loops of the function.
use Prim.Native.Nat.{◌-◌}
use lib.ListN.{length}
use Rattle.rewrite.specs.View.{way_of}
use Rattle.rewrite.proofs.Loops.{Writing}
use Rattle.rewrite.proofs.write_heads.Given as goal

abbrev pub invariant-loop-at : goal.invariant-loop-at
invariant-loop-at l = Writing (way_of l.way) l.s l.initial.out l.out l.at l.to

abbrev pub decreases-loop-at : goal.decreases-loop-at
decreases-loop-at l = length l.s - l.at
