-- The loops of the function.
use mathlib.Core.Path.{◌≡◌}
use mathlib.Core.List.{map}
use lib.ListN.{drop}
use Rattle.trailing.specs.View.{trailing_of}
use Rattle.share_defs.specs.Totals.{no_totals, totals_from}
use Rattle.sums.specs.Bits.{bits_to}
use Rattle.sums.specs.View.{sums_of}
use Rattle.sums.proofs.add_counts.Given as goal

abbrev pub invariant-loop-i : goal.invariant-loop-i
invariant-loop-i g l =
    totals_from (bits_to l.l.max) (trailing_of l.l.decoded.layout) l.i (drop l.i (map g.N.Count.number l.counts)) (sums_of l.x) ≡ totals_from (bits_to l.l.max) (trailing_of l.l.decoded.layout) 0 (map g.N.Count.number l.counts) no_totals
