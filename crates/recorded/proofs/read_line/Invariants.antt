-- The loops of the function.
use mathlib.Core.Path.{◌≡◌}
use Prim.Native.Nat.{◌-◌, ◌≤◌}
use Rattle.recorded_defs.specs.Lines.{line_from}
use Rattle.recorded.proofs.read_line.Given as goal

abbrev pub invariant-loop-count : goal.invariant-loop-count
invariant-loop-count l =
    (l.from ≤ l.at) × (line_from (64 - l.count) l.text l.at l.numbers l.count ≡ line_from 64 l.text l.from l.initial.numbers 0)
