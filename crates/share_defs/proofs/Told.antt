-- One count by what the code tests of it, at any width w. Assumes nothing.
use mathlib.Core.Path.{◌≡◌, sym, subst, ap, ◌∙◌}
use mathlib.Core.Bool.{Bool}
use mathlib.Core.List.{List, [], ◌∷◌}
use Prim.Native.Nat.{ℕ, ◌+◌, ◌-◌, ◌*◌, ◌^◌, ◌≤◌, ◌<◌}
use native.Mathlib.Omega.{arith}
use borrow.Author.Tests.{lt-ltb, le-ltb, eq-eqb, ne_eqb}
use lib.ListN.{length}
use Rattle.util_defs.specs.Width.{M}
use Rattle.util_defs.specs.Round.{up, down}
use Rattle.util_defs.specs.Refusal.{answered, refused, unless, Tells, holds, fails}
use Rattle.util_defs.proofs.Refusals.{tells_lt}
use Rattle.util_defs.specs.Placed.{Placed, reached, stopped, go_on}
use Rattle.util_defs.proofs.Tables.{answer_is}
use Rattle.util_defs.proofs.Powers.{positive, divides}
use Rattle.util_defs.proofs.Rounding.{next_multiple, up_multiple, up_ge}
use Rattle.rounding.specs.Word.{IsWord}
use Rattle.rounding.proofs.Words.{parts_of_lem, at_parts, not_zero}
use Rattle.trailing_defs.specs.Size.{Trailing, A, p, size_with, size_at, HasSize}
use Rattle.trailing_defs.specs.Calls.{GreatestIn}
use Rattle.trailing_defs.proofs.Sizes.{size_ge, size_mono}
use Rattle.share_defs.specs.Totals.{end_at, whole_padding, sum_passes, count_causes, Totals, no_totals, with_count, add_count, totals_from}
use Rattle.share_defs.specs.Share.{Share, share_of, sums_for, share_for}
use Rattle.share_defs.specs.Meaning.{ShareMeans}
use Rattle.share_defs.proofs.Meaning.{share_means}

-- the size with x trailing bytes by the parts a and q of the word, and so by rounding down
pub size_by_parts : {a q : ℕ} (w : ℕ) (t : Trailing) (x : ℕ) → IsWord t.word a q → t.word < 2 ^ w → size_with t.base (A w t) (p w t) x ≡ t.base + up (q + x) a
unfolding size_with
size_by_parts w t x h l = at_parts w (λ a q. t.base + up (q + x) a) h l

pub size_by_down : {a q : ℕ} (w : ℕ) (t : Trailing) (x : ℕ) → IsWord t.word a q → t.word < 2 ^ w → t.base + down (q + x + (a - 1)) a ≡ size_with t.base (A w t) (p w t) x
unfolding up down
size_by_down w t x h l = sym (size_by_parts w t x h l)

pub sum_fits : {a : ℕ} (w b v : ℕ) {n q : ℕ} → IsWord n a q → n < 2 ^ w → b + up v a ≤ M w → v + (a - 1) < 2 ^ w
sum_fits {a} w b v x h l =
    let lt : up v a < 2 ^ w = omega arith in
    let pos = positive x.power in
    omega (arith, next_multiple a (up v a) (2 ^ w) (up_multiple v a) (divides w x.power (omega (arith, x.sum))) lt, up_ge v a pos)

-- where m is the greatest number of trailing bytes that has a size: those of up to m bytes, and those above
module _ {a q m : ℕ} (w : ℕ) (t : Trailing) (h : IsWord t.word a q) (l : t.word < 2 ^ w) (g : GreatestIn w t (M w) m) where
  align_pos : 0 < A w t
  align_pos = positive (parts_of_lem w t.word (not_zero h) l).power

  pub most_within : m ≤ M w
  most_within = omega (arith, g.fits, size_ge t.base (A w t) (p w t) m align_pos)

  pub first_size : HasSize w t 0
  first_size = omega (arith, g.fits, size_mono t.base (A w t) (p w t) (0 * t.elem) m align_pos (omega arith))

  pub within_size : (x : ℕ) → x ≤ m → size_with t.base (A w t) (p w t) x ≤ M w
  within_size x k = omega (arith, g.fits, size_mono t.base (A w t) (p w t) x m align_pos k)

  pub bytes_size : (x : ℕ) → x ≤ m → t.base + up (q + x) a ≤ M w
  bytes_size x k = omega (arith, size_by_parts w t x h l, within_size x k)

  pub count_past : (n : ℕ) → m < n * t.elem → M w < size_at w t n
  count_past n k = go (tells_lt (M w) (size_at w t n))
    where
      go : {b : Bool} → Tells (M w < size_at w t n) b → M w < size_at w t n
      go (holds r) = r
      go (fails f) = absurd (omega (arith, f, g.greatest (n * t.elem) (omega (arith, f))))

module _ (w : ℕ) (t : Trailing) (i n : ℕ) (x : Totals) where
  -- 39, 15, 52, and what is left where none of them comes
  pub add_none : M w < size_at w t 0 → add_count w t i n x ≡ refused 39
  unfolding add_count unless
  add_none l = simp (lt-ltb (M w) (size_at w t 0) l)

  pub add_no_size : HasSize w t 0 → M w < size_at w t n → add_count w t i n x ≡ refused 15
  unfolding add_count unless
  add_no_size z l = simp (le-ltb (M w) (size_at w t 0) z, lt-ltb (M w) (size_at w t n) l)

  pub add_above : HasSize w t 0 → HasSize w t n → size_at w t n < end_at t n → add_count w t i n x ≡ refused 52
  unfolding add_count unless
  add_above z h l = simp (le-ltb (M w) (size_at w t 0) z, le-ltb (M w) (size_at w t n) h, lt-ltb (size_at w t n) (end_at t n) l)

  pub add_sized_lem : HasSize w t 0 → HasSize w t n → end_at t n ≤ size_at w t n
      → add_count w t i n x ≡ unless (sum_passes w (x.sizes + size_at w t n) (x.paddings + whole_padding w t n) ∷ []) (with_count i (size_at w t n) (whole_padding w t n) x)
  unfolding add_count unless
  add_sized_lem z h l = simp (le-ltb (M w) (size_at w t 0) z, le-ltb (M w) (size_at w t n) h, le-ltb (size_at w t n) (end_at t n) l)

  -- the sum of the paddings stays within that of the sizes
  pub within_kept : {y : Totals} → x.paddings ≤ x.sizes → add_count w t i n x ≡ answered y → y.paddings ≤ y.sizes
  unfolding add_count
  within_kept {y} l e =
      let g = answer_is (count_causes w t n (x.sizes + size_at w t n) (x.paddings + whole_padding w t n)) (with_count i (size_at w t n) (whole_padding w t n) x) e in
      subst (λ (z : Totals). z.paddings ≤ z.sizes) (sym g) (omega arith)

-- 53, and the new sums, of a count with the size s and the padding q
module _ (w i s q : ℕ) (x : Totals) where
  pub sum_passes_lem : M w < x.sizes + s → unless (sum_passes w (x.sizes + s) (x.paddings + q) ∷ []) (with_count i s q x) ≡ refused 53
  unfolding unless
  sum_passes_lem l = simp (lt-ltb (M w) (x.sizes + s) l)

  -- a greater padding takes the place of the greatest, and no other does
  module _ (h : x.paddings ≤ x.sizes) (k : q ≤ s) (l : x.sizes + s ≤ M w) where
    pub sum_greater : x.greatest < q
        → unless (sum_passes w (x.sizes + s) (x.paddings + q) ∷ []) (with_count i s q x) ≡ answered (record { sizes = x.sizes + s; paddings = x.paddings + q; greatest = q; index = i })
    unfolding unless
    sum_greater g = simp (le-ltb (M w) (x.sizes + s) l, le-ltb (M w) (x.paddings + q) (omega arith), lt-ltb x.greatest q g)

    pub sum_kept : q ≤ x.greatest
        → unless (sum_passes w (x.sizes + s) (x.paddings + q) ∷ []) (with_count i s q x) ≡ answered (record { sizes = x.sizes + s; paddings = x.paddings + q; greatest = x.greatest; index = x.index })
    unfolding unless
    sum_kept g = simp (le-ltb (M w) (x.sizes + s) l, le-ltb (M w) (x.paddings + q) (omega arith), le-ltb x.greatest q g)

-- the whole list: 2, 51, and what the fold gives
module _ (w : ℕ) (t : Trailing) (ns : List ℕ) where
  pub sums_bad_word : t.word ≡ 0 → sums_for w t ns ≡ stopped 2 0
  unfolding sums_for unless
  sums_bad_word e = simp (eq-eqb t.word 0 e)

  pub sums_empty : 0 < t.word → length ns ≡ 0 → sums_for w t ns ≡ stopped 51 0
  unfolding sums_for unless
  sums_empty h e = simp (ne_eqb t.word 0 (λ z. omega arith), eq-eqb (length ns) 0 e)

  pub sums_folded : 0 < t.word → 0 < length ns → sums_for w t ns ≡ totals_from w t 0 ns no_totals
  unfolding sums_for unless
  sums_folded h l = simp (ne_eqb t.word 0 (λ z. omega arith), ne_eqb (length ns) 0 (λ z. omega arith))

-- no size at 0 is told of the first count
pub sums_none : (w : ℕ) (t : Trailing) (ns : List ℕ) → 0 < t.word → 0 < length ns → M w < size_at w t 0 → sums_for w t ns ≡ stopped 39 0
unfolding totals_from
sums_none w t [] h pos l = absurd (omega arith)
sums_none w t (n ∷ ns) h pos l =
    sums_folded w t (n ∷ ns) h pos ∙ simp (add_none w t 0 n no_totals l)

-- what is given of the totals
pub share_of_sums : {o : Placed Totals} (w : ℕ) (t : Trailing) (ns : List ℕ) → o ≡ sums_for w t ns → go_on o (λ x. reached (share_of (length ns) x)) ≡ share_for w t ns
unfolding share_for
share_of_sums w t ns e = ap (λ (p : Placed Totals). go_on p (λ x. reached (share_of (length ns) x))) e

-- an outcome that is the one given means what that means
pub share_told : {o : Placed Share} (w : ℕ) (t : Trailing) (ns : List ℕ) → o ≡ share_for w t ns → (o ≡ share_for w t ns) × ShareMeans w t ns o
share_told w t ns e = (e, subst (ShareMeans w t ns) (sym e) (share_means w t ns))
