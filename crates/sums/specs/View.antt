-- What the types of this crate are, over numbers. Assumes nothing.
use Rattle.std.specs.Prelude.{Result, Ok, Err}
use Rattle.util.specs.View.{number_of, says, placed_says}
use Rattle.util.specs.declared.refusal.Refusal.{Refusal}
use Rattle.util.specs.declared.refusal.RefusedAt.{RefusedAt}
use Rattle.std.specs.Prelude.{◌≡◌, List, ℕ, ◌<◌, length}
use Rattle.util_defs.specs.Refusal.{Outcome}
use Rattle.util_defs.specs.Placed.{Placed, stopped}
use Rattle.trailing_defs.specs.Size.{Trailing}
use Rattle.trailing.specs.View.{trailing_of}
use Rattle.share_defs.specs.Totals.{Totals}
use Rattle.share_defs.specs.Share.{sums_for}
use Rattle.sums.specs.Bits.{bits_to}
use Rattle.sums.specs.declared.tested.Sums.{Sums}
use Rattle.sums.specs.declared.tested.Tested.{Tested}

abbrev pub sums_of : Sums → Totals
sums_of x = record { sizes = x.sizes; paddings = x.paddings; greatest = x.greatest; index = x.index }

abbrev pub bits_of : Tested → ℕ
bits_of l = bits_to l.max

-- what is tested of a layout before its counts, of which there are so many: it is that layout, and there are some; or whatever
-- the counts are, they are refused
abbrev pub TestMeans : Trailing → (max count : ℕ) → Result Tested Refusal → Type 0
TestMeans t max count (Ok l) =
    (trailing_of l.decoded.layout ≡ t) × ((l.max ≡ max) × (0 < count))
TestMeans t max count (Err r) =
    (ns : List ℕ) → length ns ≡ count → stopped (number_of r) 0 ≡ sums_for (bits_to max) t ns

abbrev pub add_says : Result Sums Refusal → Outcome Totals
add_says = says sums_of

abbrev pub sums_says : Result Sums (RefusedAt ℕ) → Placed Totals
sums_says = placed_says sums_of
