-- Two sequences of sizes. Assumes nothing.
use mathlib.Core.Path.{◌≡◌, sym, ap, ap₂, ◌∙◌}
use mathlib.Core.Logic.{inl, inr}
use Prim.Native.Nat.{ℕ, ◌+◌, ◌-◌, ◌*◌, ◌/◌, ◌%◌, ◌^◌, ◌<◌, max}
use native.Mathlib.Nat.{le-max_left, le-max_right, mul_assoc, mul-mod_left}
use native.Mathlib.Omega.{arith}
use Rattle.util_defs.specs.Power.{PowerOfTwo}
use Rattle.util_defs.specs.Round.{up}
use Rattle.util_defs.specs.Refusal.{Tells}
use Rattle.util_defs.proofs.Refusals.{tells_eq, tells_le, tells_and, tells_or, tells_as}
use Rattle.util_defs.proofs.Powers.{positive, power_divides, through, max_power}
use Rattle.util_defs.proofs.Rounding.{multiple, up_shift}
use Rattle.rounding.proofs.Words.{parts_of_lem}
use Rattle.trailing_defs.specs.Size.{Trailing, A, p, size_with, size_at}
use Rattle.trailing_defs.specs.Sequence.{EqualSizes, SameStride, same_stride, SameStart, same_start, SameSequence, same_sequence}

-- elements of whole blocks add their bytes to the size at 0
pub whole_blocks : (b A p e n : ℕ) → 0 < A → e % A ≡ 0 → size_with b A p (n * e) ≡ size_with b A p (0 * e) + n * e
unfolding size_with
whole_blocks b A p e n h d =
    let k = e / A in
    let x : n * k * A ≡ n * e = mul_assoc n k A ∙ ap (λ (z : ℕ). n * z) (multiple e A d) in
    let m : (n * e) % A ≡ 0 = ap (λ (z : ℕ). z % A) (sym x) ∙ mul-mod_left (n * k) A in
    let u : up (n * e + p) A ≡ n * e + up p A = up_shift p A (n * e) h m in
    let v : up (p + n * e) A ≡ up (n * e + p) A = ap (λ (z : ℕ). up z A) (omega arith) in
    let o : up (p + 0 * e) A ≡ up p A = ap (λ (z : ℕ). up z A) (omega arith) in
    omega arith

same_sizes_at : (b A p c B q e n : ℕ) → PowerOfTwo A → PowerOfTwo B → size_with b A p (0 * e) ≡ size_with c B q (0 * e)
    → SameStride e A p B q → size_with b A p (n * e) ≡ size_with c B q (n * e)
unfolding size_with
same_sizes_at b A p c B q e n x y f (inl d) =
    let m = max_power x y in
    let d_a : e % A ≡ 0 = through A (max A B) e (power_divides x m (le-max_left A B)) d in
    let d_b : e % B ≡ 0 = through B (max A B) e (power_divides y m (le-max_right A B)) d in
    omega (arith, whole_blocks b A p e n (positive x) d_a, whole_blocks c B q e n (positive y) d_b)
same_sizes_at b A p c B q e n x y f (inr s) =
    let i : up (p + 0 * e) A ≡ up (q + 0 * e) B = ap₂ (λ (P Q : ℕ). up (P + 0 * e) Q) s.1 s.0 in
    let j : up (p + n * e) A ≡ up (q + n * e) B = ap₂ (λ (P Q : ℕ). up (P + n * e) Q) s.1 s.0 in
    omega arith

-- the condition means equal sizes at every count
pub same_sizes : (w : ℕ) (s t : Trailing) → 0 < s.word → s.word < 2 ^ w → 0 < t.word → t.word < 2 ^ w → SameSequence w s t → EqualSizes w s t
same_sizes w s t ps hs pt ht c n =
    let e : size_with t.base (A w t) (p w t) (n * s.elem) ≡ size_at w t n = ap (λ (z : ℕ). size_with t.base (A w t) (p w t) (n * z)) c.elems in
    let f : size_at w t 0 ≡ size_with t.base (A w t) (p w t) (0 * s.elem) = ap (λ (z : ℕ). size_with t.base (A w t) (p w t) (0 * z)) (sym c.elems) in
    same_sizes_at s.base (A w s) (p w s) t.base (A w t) (p w t) s.elem n (parts_of_lem w s.word ps hs).power (parts_of_lem w t.word pt ht).power
    (c.start.1.1 ∙ f) c.stride ∙ e

-- the tests decide the condition
pub tells_stride : (e A p B q : ℕ) → Tells (SameStride e A p B q) (same_stride e A p B q)
tells_stride e A p B q = tells_or (tells_eq (e % max A B) 0) (tells_and (tells_eq A B) (tells_eq p q))

pub tells_start : (w : ℕ) (s t : Trailing) → Tells (SameStart w s t) (same_start w s t)
tells_start w s t = tells_and (tells_le (size_at w s 0) (2 ^ w - 1)) (tells_and (tells_le (size_at w t 0) (2 ^ w - 1)) (tells_eq (size_at w s 0) (size_at w t 0)))

pub tells_same : (w : ℕ) (s t : Trailing) → Tells (SameSequence w s t) (same_sequence w s t)
unfolding same_sequence
tells_same w s t =
    tells_as (λ x. record { elems = x.0; start = x.1.0; stride = x.1.1 }) (λ c. (c.elems, (c.start, c.stride)))
    (tells_and (tells_eq s.elem t.elem) (tells_and (tells_start w s t) (tells_stride s.elem (A w s) (p w s) (A w t) (p w t))))
