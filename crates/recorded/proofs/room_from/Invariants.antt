-- The loops of the function.
use mathlib.Core.Path.{◌≡◌}
use lib.ListN.{replicate}
use Rattle.std.proofs.lemmas.List.Edits.{sets}
use Rattle.recorded_defs.specs.Lines.{bytes_from}
use Rattle.recorded.proofs.room_from.Given as goal

abbrev pub invariant-loop-k : goal.invariant-loop-k
invariant-loop-k l = l.bytes ≡ sets (replicate 384 0) 0 (bytes_from l.k l.line l.from)
