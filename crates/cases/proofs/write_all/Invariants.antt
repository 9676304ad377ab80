-- The loops of the function.
use Prim.Native.Nat.{suc, ◌-◌}
use Rattle.cases.proofs.Written.{Below}
use Rattle.cases.proofs.write_all.Given as goal

abbrev pub invariant-loop-count : goal.invariant-loop-count
invariant-loop-count l = Below l.longest l.initial.out l.out l.at l.count

abbrev pub decreases-loop-count : goal.decreases-loop-count
decreases-loop-count l = suc l.longest - l.count
