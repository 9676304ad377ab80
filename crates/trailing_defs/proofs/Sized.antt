-- The size at a count, and the greatest count that has one, at any width w. Assumes nothing.
use mathlib.Core.Path.{◌≡◌, refl, sym, ap, subst, ◌∙◌}
use mathlib.Core.Bool.{Bool}
use mathlib.Core.Logic.{inl, inr}
use Prim.Native.Nat.{ℕ, suc, ◌*◌, ◌^◌, ◌<◌}
use lib.Dec.{ltb}
use borrow.Author.Tests.{eq-eqb, ne_eqb, lt-ltb, le-ltb}
use native.Mathlib.Omega.{arith}
use Rattle.util_defs.specs.Width.{M}
use Rattle.util_defs.specs.Refusal.{unless, Tells, holds, fails, Meets}
use Rattle.util_defs.proofs.Refusals.{tells_eq, tells_le, tells_lt, tells_as, meets, one_number, no_number}
use Rattle.util_defs.proofs.Powers.{positive}
use Rattle.rounding.proofs.Words.{parts_of_lem}
use Rattle.trailing_defs.specs.Size.{Trailing, A, p, size_with, size_at, HasSize}
use Rattle.trailing_defs.specs.Count.{GreatestCount, count_within}
use Rattle.trailing_defs.specs.Calls.{size_causes, size_for}
use Rattle.trailing_defs.specs.Sized.{SizeOutcome, sized, none_above, refused_by, size_given, Most, SizeMeans, has, above, refuses}
use Rattle.trailing_defs.proofs.Sizes.{count_mono, greatest_count, one_count}

pub tells_no_size : (w : ℕ) (t : Trailing) (n : ℕ) → Tells (HasSize w t n → ⊥) (ltb (M w) (size_at w t n))
tells_no_size w t n = tells_as (λ l h. omega arith) (λ m. omega (arith, m)) (tells_lt (M w) (size_at w t n))

pub size_meets : (w : ℕ) (t : Trailing) (n : ℕ) → Meets (size_causes w t n) (λ s. s ≡ size_at w t n) (size_for w t n)
unfolding size_for
size_meets w t n =
    meets (size_causes w t n) (size_at w t n) (tells_eq t.word 0, λ _. (tells_no_size w t 0, λ _. (tells_no_size w t n, λ _. tt))) (λ _. refl)

-- the outcome where the word is 0; where there is no size at 0; where there is one at 0 and none at n; and where there is one at n
pub given_zero : (w : ℕ) (t : Trailing) (n : ℕ) → t.word ≡ 0 → size_given w t n ≡ refused_by 2
unfolding size_given size_for unless
given_zero w t n z = simp (eq-eqb t.word 0 z)

pub given_none : (w : ℕ) (t : Trailing) (n : ℕ) → 0 < t.word → M w < size_at w t 0 → size_given w t n ≡ refused_by 39
unfolding size_given size_for unless
given_none w t n h l = simp (ne_eqb t.word 0 (λ z. omega arith), lt-ltb (M w) (size_at w t 0) l)

pub given_above : (w : ℕ) (t : Trailing) (n : ℕ) → 0 < t.word → HasSize w t 0 → M w < size_at w t n
    → size_given w t n ≡ none_above (count_within w t (M w))
unfolding size_given size_for unless
given_above w t n h z l =
    simp (ne_eqb t.word 0 (λ z. omega arith), le-ltb (M w) (size_at w t 0) z, lt-ltb (M w) (size_at w t n) l)

pub given_size : (w : ℕ) (t : Trailing) (n : ℕ) → 0 < t.word → t.word < 2 ^ w → HasSize w t n → size_given w t n ≡ sized (size_at w t n)
unfolding size_given size_for unless
given_size w t n h b l =
    let z = count_mono w t 0 n (positive (parts_of_lem w t.word h b).power) (omega arith) in
    simp (ne_eqb t.word 0 (λ z. omega arith), le-ltb (M w) (size_at w t 0) (omega arith), le-ltb (M w) (size_at w t n) l)

-- elements of no size have one size at every count, so that a count without a size means that there is none at 0
no_elem : (w : ℕ) (t : Trailing) (m n : ℕ) → t.elem ≡ 0 → size_at w t m ≡ size_at w t n
no_elem w t m n e =
    let i : m * 0 ≡ n * 0 = omega arith in
    ap (size_with t.base (A w t) (p w t)) (ap (λ (x : ℕ). m * x) e ∙ i ∙ sym (ap (λ (x : ℕ). n * x) e))

pub elem_some : (w : ℕ) (t : Trailing) (n : ℕ) → HasSize w t 0 → M w < size_at w t n → 0 < t.elem
elem_some w t n z l = go (tells_eq t.elem 0)
  where
    go : {b : Bool} → Tells (t.elem ≡ 0) b → 0 < t.elem
    go (holds e) = absurd (omega (arith, no_elem w t n 0 e))
    go (fails f) = omega (arith, f)

-- what it gives means what it should
pub most : (w : ℕ) (t : Trailing) (n : ℕ) → 0 < t.word → t.word < 2 ^ w → HasSize w t 0 → M w < size_at w t n
    → Most w t n (count_within w t (M w))
most w t n h b z l =
    let a = positive (parts_of_lem w t.word h b).power in
    let g = greatest_count w t (M w) a (elem_some w t n z l) z in
    record { greatest = g; below = go g (tells_lt (count_within w t (M w)) n) }
  where
    go : GreatestCount w t (M w) (count_within w t (M w)) → {b : Bool} → Tells (count_within w t (M w) < n) b → count_within w t (M w) < n
    go g (holds x) = x
    go g (fails x) =
        absurd (omega (arith, g.fits, count_mono w t n (count_within w t (M w)) (positive (parts_of_lem w t.word h b).power) (omega (arith, x))))

pub size_means : (w : ℕ) (t : Trailing) (n : ℕ) → t.word < 2 ^ w → SizeMeans w t n (size_given w t n)
size_means w t n b = go (tells_eq t.word 0) (tells_le (size_at w t 0) (M w)) (tells_le (size_at w t n) (M w))
  where
    by : {o : SizeOutcome} → size_given w t n ≡ o → SizeMeans w t n o → SizeMeans w t n (size_given w t n)
    by e m = subst (SizeMeans w t n) (sym e) m

    go : {x y z : Bool} → Tells (t.word ≡ 0) x → Tells (HasSize w t 0) y → Tells (HasSize w t n) z → SizeMeans w t n (size_given w t n)
    go (holds e) y z = by (given_zero w t n e) (refuses (inl (e, refl)) (λ i. omega arith))
    go (fails f) (fails m) z =
        by (given_none w t n (omega (arith, f)) (omega (arith, m))) (refuses (inr (f, inl (m, refl))) (λ i. omega arith))
    go (fails f) (holds l) (fails m) =
        by (given_above w t n (omega (arith, f)) l (omega (arith, m)))
        (above (inr (f, inr ((λ g. g l), inl (m, refl)))) (most w t n (omega (arith, f)) b l (omega (arith, m))))
    go (fails f) (holds l) (holds k) =
        by (given_size w t n (omega (arith, f)) b k) (has (f, ((λ g. g l), ((λ g. g k), tt))) refl)

-- nothing else means it
pub one_size : (w : ℕ) (t : Trailing) (n : ℕ) (a b : SizeOutcome) → SizeMeans w t n a → SizeMeans w t n b → a ≡ b
one_size w t n (sized s) (sized r) (has _ x) (has _ y) = ap sized (x ∙ sym y)
one_size w t n (sized s) (none_above g) (has x _) (above f _) = absurd (no_number (size_causes w t n) 15 x f)
one_size w t n (sized s) (refused_by k) (has x _) (refuses f _) = absurd (no_number (size_causes w t n) k x f)
one_size w t n (none_above g) (sized s) (above f _) (has x _) = absurd (no_number (size_causes w t n) 15 x f)
one_size w t n (none_above g) (none_above h) (above _ x) (above _ y) = ap none_above (one_count x.greatest y.greatest)
one_size w t n (none_above g) (refused_by k) (above f _) (refuses e m) = absurd (m (one_number (size_causes w t n) k 15 e f))
one_size w t n (refused_by k) (sized s) (refuses f _) (has x _) = absurd (no_number (size_causes w t n) k x f)
one_size w t n (refused_by k) (none_above g) (refuses e m) (above f _) = absurd (m (one_number (size_causes w t n) k 15 e f))
one_size w t n (refused_by j) (refused_by k) (refuses e _) (refuses f _) = ap refused_by (one_number (size_causes w t n) j k e f)

-- with elements of no size 15 never comes
pub elem_zero_never : (w : ℕ) (t : Trailing) (n g : ℕ) → t.elem ≡ 0 → SizeMeans w t n (none_above g) → ⊥
elem_zero_never w t n g e (above _ m) =
    omega (arith, m.greatest.greatest (suc g) (omega (arith, m.greatest.fits, no_elem w t (suc g) g e)))
