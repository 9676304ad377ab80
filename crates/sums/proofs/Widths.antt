-- The two widths by their greatest numbers. Assumes nothing.
use Rattle.std.specs.Prelude.{Ok}
use mathlib.Core.Path.{◌≡◌, refl, sym, ap, ap₂, ◌∙◌}
use mathlib.Core.Bool.{Bool, true, false, cond}
use mathlib.Core.List.{List}
use Prim.Native.Nat.{ℕ, ◌^◌, ◌≤◌, ◌<◌}
use native.Mathlib.Omega.{arith}
use lib.Dec.{eqb}
use lib.ListN.{length}
use Rattle.util_defs.specs.Width.{M}
use Rattle.rounding.proofs.Words.{not_zero}
use Rattle.trailing_defs.specs.Size.{Trailing}
use Rattle.trailing_defs.specs.Calls.{max_trailing_for}
use Rattle.trailing.specs.View.{trailing_of}
use Rattle.widths_defs.proofs.Sizes.{room_same}
use Rattle.share_defs.specs.Totals.{no_totals, totals_from}
use Rattle.share_defs.specs.Share.{sums_for}
use Rattle.share_defs.proofs.Told.{sums_folded}
use Rattle.sums.specs.declared.tested.Tested.{Tested}
use Rattle.sums.specs.Bits.{bits_to}
use Rattle.sums.specs.View.{TestMeans}

pub most_bits : (max : ℕ) → bits_to max ≤ 64
unfolding bits_to
most_bits max = go (eqb max (M 32))
  where
    go : (b : Bool) → cond b 32 64 ≤ 64
    go true = omega arith
    go false = omega arith

pub bits_64 : bits_to (M 64) ≡ 64
unfolding bits_to
bits_64 = refl

pub bits_32 : bits_to (M 32) ≡ 32
unfolding bits_to
bits_32 = refl

-- the room of the greatest number, by that at 64 bits
pub room_at : (max : ℕ) (t : Trailing) → max ≡ M (bits_to max) → t.word < 2 ^ bits_to max → max_trailing_for 64 t max ≡ max_trailing_for (bits_to max) t (M (bits_to max))
room_at max t e h = sym (room_same (bits_to max) 64 t max (most_bits max) h) ∙ ap (max_trailing_for (bits_to max) t) e

-- the sums of a layout that was tested are those of the layout
pub tested_sums : (l : Tested) (w max : ℕ) (t : Trailing) (ns : List ℕ) → TestMeans t max (length ns) (Ok l) → bits_to max ≡ w
    → totals_from (bits_to l.max) (trailing_of l.decoded.layout) 0 ns no_totals ≡ sums_for w t ns
tested_sums l w max t ns m e =
    sym (sums_folded (bits_to l.max) (trailing_of l.decoded.layout) ns (not_zero l.decoded.is_word) m.1.1)
    ∙ ap₂ (λ (v : ℕ) (s : Trailing). sums_for v s ns) (ap bits_to m.1.0 ∙ e) m.0
