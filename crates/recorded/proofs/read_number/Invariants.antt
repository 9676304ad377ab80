-- The loops of the function.
use mathlib.Core.Path.{◌≡◌}
use mathlib.Core.Bool.{false}
use Prim.Native.Nat.{◌≤◌}
use lib.Dec.{ltb}
use lib.ListN.{drop}
use Rattle.recorded_defs.specs.Lines.{number_from}
use Rattle.recorded.proofs.read_number.Given as goal

abbrev pub invariant-loop-at : goal.invariant-loop-at
invariant-loop-at l = (l.from ≤ l.at) × (number_from l.value (ltb l.from l.at) l.at (drop l.at l.text) ≡ number_from 0 false l.from (drop l.from l.text))
