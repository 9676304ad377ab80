-- Sizes and paddings over a list of counts of one trailing layout (document 02, request 12): their totals, what refuses a count,
-- and the fold over the list. Assumes nothing.
use Rattle.std.specs.Prelude.{cond, ◌||◌, List, [], ◌∷◌, map, ◌⊎◌, ℕ, suc, ◌+◌, ◌-◌, ◌*◌, ◌<◌, ltb, take, get_or}
use Rattle.util_defs.specs.Width.{M}
use Rattle.util_defs.specs.Refusal.{Outcome, Cause, unless}
use Rattle.util_defs.specs.Placed.{Placed, reached, at_place}
use Rattle.trailing_defs.specs.Size.{Trailing, size_at}
use Rattle.trailing_defs.specs.Calls.{no_size_at_zero, no_size}

-- where the elements end at count n: o + n·e, over unlimited whole numbers
abbrev pub end_at : Trailing → ℕ → ℕ
end_at t n = t.offset + n * t.elem

-- the padding at count n: the size less that end. It is asked for where the end is not above the size
abbrev pub whole_padding : ℕ → Trailing → ℕ → ℕ
whole_padding w t n = size_at w t n - end_at t n

-- exact sums: the total size and the total padding of counts
abbrev pub sum : List ℕ → ℕ
sum [] = 0
sum (x ∷ xs) = x + sum xs

abbrev pub total_size : ℕ → Trailing → List ℕ → ℕ
total_size w t ns = sum (map (size_at w t) ns)

abbrev pub total_padding : ℕ → Trailing → List ℕ → ℕ
total_padding w t ns = sum (map (whole_padding w t) ns)

-- 52: the end of the elements is above the size
abbrev pub end_above : ℕ → Trailing → ℕ → Cause
end_above w t n = record { number = 52; test = ltb (size_at w t n) (end_at t n); means = size_at w t n < end_at t n }

-- 53: a sum, of sizes or of paddings, passes M
abbrev pub sum_passes : ℕ → (sizes paddings : ℕ) → Cause
sum_passes w s q = record { number = 53; test = ltb (M w) s || ltb (M w) q; means = (M w < s) ⊎ (M w < q) }

-- what refuses the count n, where it makes the sums s and q: its own number where it has no size, 52, 53
abbrev pub count_causes : ℕ → Trailing → (n s q : ℕ) → List Cause
count_causes w t n s q = no_size_at_zero w t ∷ no_size w t n ∷ end_above w t n ∷ sum_passes w s q ∷ []

-- what refuses the count with the index i of a list: the sums are those so far, with this count
abbrev pub causes_at : ℕ → Trailing → List ℕ → ℕ → List Cause
causes_at w t ns i = count_causes w t (get_or ns i 0) (total_size w t (take (suc i) ns)) (total_padding w t (take (suc i) ns))

-- the sums so far, the greatest padding and its first index; those of no counts
pub record Totals : Type 0 where
  pub sizes : ℕ
  pub paddings : ℕ
  pub greatest : ℕ
  pub index : ℕ

abbrev pub no_totals : Totals
no_totals = record { sizes = 0; paddings = 0; greatest = 0; index = 0 }

-- those with one count more, of the index i, the size s and the padding q: only a padding above the greatest takes its place
abbrev pub with_count : (i s q : ℕ) → Totals → Totals
with_count i s q x = record {
  sizes = x.sizes + s;
  paddings = x.paddings + q;
  greatest = cond (ltb x.greatest q) q x.greatest;
  index = cond (ltb x.greatest q) i x.index;
}

unfoldable pub add_count : ℕ → Trailing → (i n : ℕ) → Totals → Outcome Totals
add_count w t i n x =
    unless (count_causes w t n (x.sizes + size_at w t n) (x.paddings + whole_padding w t n))
    (with_count i (size_at w t n) (whole_padding w t n) x)

-- counts in turn, of which the first has the index i
unfoldable pub totals_from : ℕ → Trailing → ℕ → List ℕ → Totals → Placed Totals
totals_from w t i [] x = reached x
totals_from w t i (n ∷ ns) x = at_place i (add_count w t i n x) (λ y. totals_from w t (suc i) ns y)
