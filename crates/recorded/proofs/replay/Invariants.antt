-- A replay: what is left of the text, over the tally so far, gives the tally of all. Assumes nothing.
use Rattle.std.proofs.Common.{length, ◌-◌}
use Rattle.std.specs.Fn.{FnReturnsAt}
use Rattle.recorded.specs.declared.Tally.{Tally}
use Rattle.recorded.specs.Tallies.{Tallies}
use Rattle.recorded.proofs.replay.Given as goal

abbrev pub invariant-loop-at : goal.invariant-loop-at
invariant-loop-at g l =
    (u : Tally) → Tallies (FnReturnsAt g.F.Fn l.call) l.text l.at l.tally u → Tallies (FnReturnsAt g.F.Fn l.call) l.text 0 (record { lines = 0; differ = 0 }) u

abbrev pub decreases-loop-at : goal.decreases-loop-at
decreases-loop-at g l = length l.text - l.at
