-- The modes of conversion (document 02, request 9): each has its comparison of sequences. Assumes nothing.
use Rattle.std.specs.Prelude.{ℕ}
use Rattle.trailing_defs.specs.Sequence.{same_sequence}
use Rattle.full_defs.specs.Full.{sizes_agree}
use Rattle.shift_defs.specs.Match.{Comparison}

-- by the ported comparison, or by the full one
pub data Mode : Type 0 where
  ported : Mode
  full : Mode

abbrev pub comparison_of : ℕ → Mode → Comparison
comparison_of w ported = same_sequence w
comparison_of w full = sizes_agree w
