-- Worked cases of the padding over a list of counts, by hand, computed from the definitions at 64 bits. Assumes nothing.
use mathlib.Core.Path.{◌≡◌, refl}
use mathlib.Core.List.{List, [], ◌∷◌}
use Prim.Native.Nat.{ℕ, ◌-◌, ◌^◌}
use Rattle.util_defs.specs.Round.{up}
use Rattle.util_defs.specs.Refusal.{unless}
use Rattle.util_defs.specs.Placed.{Placed, reached, stopped}
use Rattle.rounding.specs.Word.{highest_bit}
use Rattle.trailing_defs.specs.Size.{Trailing, size_with}
use Rattle.gcd_defs.specs.Gcd.{by_remainders, gcd}
use Rattle.share_defs.specs.Totals.{add_count, totals_from}
use Rattle.share_defs.specs.Share.{Share, sums_for, share_for}

-- the greatest number
abbrev M : ℕ
M = 2 ^ 64 - 1

abbrev tail : (base word elem offset : ℕ) → Trailing
tail b n e o = record { offset = o; elem = e; base = b; word = n }

-- the answer as numbers: the refusal and its place, or 0 and the six numbers
abbrev numbers : Placed Share → List ℕ
numbers (reached r) =
    0 ∷ r.padding.numerator ∷ r.padding.denominator ∷ r.mean.numerator ∷ r.mean.denominator ∷ r.greatest ∷ r.index ∷ []
numbers (stopped k i) = k ∷ i ∷ []

-- a row: a layout, its counts, and what they give
record Row : Type 0 where
  layout : Trailing
  counts : List ℕ
  gives : List ℕ

abbrev Claim : List Row → Type 0
Claim [] = Unit {0}
Claim (r ∷ rs) = (numbers (share_for 64 r.layout r.counts) ≡ r.gives) × Claim rs

abbrev row : Trailing → List ℕ → List ℕ → Row
row t ns r = record { layout = t; counts = ns; gives = r }

abbrev rows : List Row
rows =
    -- sizes 24, 32, 32 and paddings 12, 14, 8; in another order; and the first of two equal paddings counts
    row (tail 16 11 6 12) (0 ∷ 1 ∷ 2 ∷ []) (0 ∷ 17 ∷ 44 ∷ 88 ∷ 3 ∷ 14 ∷ 1 ∷ [])
    ∷ row (tail 16 11 6 12) (2 ∷ 0 ∷ 1 ∷ []) (0 ∷ 17 ∷ 44 ∷ 88 ∷ 3 ∷ 14 ∷ 2 ∷ [])
    ∷ row (tail 16 11 6 12) (2 ∷ 1 ∷ 1 ∷ []) (0 ∷ 3 ∷ 8 ∷ 32 ∷ 1 ∷ 14 ∷ 1 ∷ [])
    -- total 0
    ∷ row (tail 0 1 0 0) (5 ∷ 7 ∷ []) (0 ∷ 0 ∷ 1 ∷ 0 ∷ 1 ∷ 0 ∷ 0 ∷ [])
    -- the end of the elements is one above the size; and M + 4, which modulo M + 1 is below it
    ∷ row (tail 0 1 4 1) (0 ∷ 3 ∷ []) (52 ∷ 0 ∷ [])
    ∷ row (tail 2 1 1 M) (4 ∷ []) (52 ∷ 0 ∷ [])
    -- a sum of M is accepted, and one more is not; a count without a size behind one that has it; and none at 0
    ∷ row (tail 0 1 1 0) ((M - 1) ∷ 1 ∷ []) (0 ∷ 0 ∷ 1 ∷ M ∷ 2 ∷ 0 ∷ 0 ∷ [])
    ∷ row (tail 0 1 1 0) ((M - 1) ∷ 1 ∷ 1 ∷ []) (53 ∷ 2 ∷ [])
    ∷ row (tail 0 1 2 0) (0 ∷ (2 ^ 63) ∷ []) (15 ∷ 1 ∷ [])
    ∷ row (tail M 3 0 0) (1 ∷ 0 ∷ []) (39 ∷ 0 ∷ [])
    -- the layout before the empty list
    ∷ row (tail 0 0 1 0) [] (2 ∷ 0 ∷ [])
    ∷ row (tail 0 1 1 0) [] (51 ∷ 0 ∷ [])
    ∷ []

cases_hold : Claim rows
unfolding share_for sums_for totals_from add_count unless size_with up highest_bit gcd by_remainders
cases_hold =
    (refl, (refl, (refl, (refl, (refl, (refl, (refl, (refl, (refl, (refl, (refl, (refl, tt))))))))))))
