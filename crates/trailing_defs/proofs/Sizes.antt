-- Sizes and the greatest numbers of bytes and elements, for any alignment but 0. Assumes nothing.
use mathlib.Core.Path.{◌≡◌, sym, ap, ◌∙◌}
use Prim.Native.Nat.{ℕ, ◌+◌, ◌-◌, ◌*◌, ◌/◌, ◌%◌, ◌^◌, ◌≤◌, ◌<◌}
use lib.Dec.{ltb}
use native.Mathlib.Nat.{mul-le-mul_right, mod-add-mod, mod-eq_of_lt, mod-lt, mod_self, div-mul-le_self, le-div_iff_mul-le, le_trans, add-mul-mod_self_right, div-add-mod'}
use native.Mathlib.Omega.{arith}
use Rattle.util_defs.specs.Power.{PowerOfTwo}
use Rattle.util_defs.specs.Round.{up, down, padding}
use Rattle.util_defs.specs.Refusal.{Tells}
use Rattle.util_defs.proofs.Refusals.{tells_lt, tells_as}
use Rattle.util_defs.proofs.Powers.{positive, divides, mod-through}
use Rattle.util_defs.proofs.Rounding.{next_multiple, sum_multiple, up_down, down_up, up_ge, up_mono, up_multiple, up_whole, up_shift, up_is, up_padding, down_shift, down_mod, down_multiple, down_le, down_near, mod-cancel}
use Rattle.trailing_defs.specs.Size.{Trailing, A, p, size_with, size_at, HasSize}
use Rattle.trailing_defs.specs.Count.{GreatestBytes, bytes_within, GreatestCount, count_within}
use Rattle.trailing_defs.specs.Calls.{PaddingAt, padding_at}

-- the size at count 0 is the base and the rounded phase
pub size_zero : (b A p e : ℕ) → size_with b A p (0 * e) ≡ b + up p A
unfolding size_with
size_zero b A p e = ap (λ (x : ℕ). b + up x A) {x = p + 0 * e} {y = p} (omega arith)

-- what an empty run adds: nothing for phase 0, and for any other a block of the alignment
pub rounded_zero : (A : ℕ) → 0 < A → up 0 A ≡ 0
rounded_zero A h = up_whole 0 A h (mod-eq_of_lt h)

pub rounded_phase_lem : (A p : ℕ) → 0 < p → p < A → up p A ≡ A
rounded_phase_lem A p l h = sym (up_is p A A (omega arith) (mod_self A) (omega arith) (omega arith))

-- the key law of counts: the size with x bytes is at most L exactly where b is and p + x is at most down(L - b, A)
pub size_within : (b A p x L : ℕ) → 0 < A → size_with b A p x ≤ L → p + x ≤ down (L - b) A
unfolding size_with
size_within b A p x L h l = up_down (p + x) (L - b) A h (omega arith)

pub within_size : (b A p x L : ℕ) → 0 < A → b ≤ L → p + x ≤ down (L - b) A → size_with b A p x ≤ L
unfolding size_with
within_size b A p x L h l d = omega (arith, down_up (p + x) (L - b) A h d)

-- sizes grow with the bytes, which they hold
pub size_mono : (b A p x y : ℕ) → 0 < A → x ≤ y → size_with b A p x ≤ size_with b A p y
unfolding size_with
size_mono b A p x y h l = omega (arith, up_mono (p + x) (p + y) A h (omega arith))

pub size_ge : (b A p x : ℕ) → 0 < A → b + x ≤ size_with b A p x
unfolding size_with
size_ge b A p x h = omega (arith, up_ge (p + x) A h)

pub count_mono : (w : ℕ) (t : Trailing) (m n : ℕ) → 0 < A w t → m ≤ n → size_at w t m ≤ size_at w t n
count_mono w t m n h l = size_mono t.base (A w t) (p w t) (m * t.elem) (n * t.elem) h (mul-le-mul_right t.elem l)

-- the greatest number of trailing bytes is that of `bytes_within`, where the size at 0 is at most L
pub greatest_bytes : (b A p L : ℕ) → 0 < A → size_with b A p 0 ≤ L → GreatestBytes b A p L (bytes_within b A p L)
unfolding bytes_within
greatest_bytes b A p L h l =
    let z = size_within b A p 0 L h l in
    record {
      fits = within_size b A p (down (L - b) A - p) L h (omega (arith, size_ge b A p 0 h)) (omega arith);
      greatest = λ y f. omega (arith, size_within b A p y L h f);
    }

-- and where it is above L there is none
pub tells_room : (b A p e L : ℕ) → 0 < A → Tells ((x : ℕ) → size_with b A p x ≤ L → ⊥) (ltb L (size_with b A p (0 * e)))
tells_room b A p e L h =
    tells_as (λ l x f. omega (arith, size_mono b A p (0 * e) x h (omega arith))) (λ n. omega (arith, n (0 * e))) (tells_lt L (size_with b A p (0 * e)))

-- that number as the code has it: whole blocks of what is left above the size at 0, and what an empty run leaves
pub bytes_by_blocks : (b A p L u : ℕ) → 0 < A → u ≡ up p A → b + u ≤ L → down (L - (b + u)) A + (u - p) ≡ bytes_within b A p L
unfolding bytes_within
bytes_by_blocks b A p L u h e l =
    let v = L - (b + u) in
    let m : u % A ≡ 0 = ap (λ (x : ℕ). x % A) e ∙ up_multiple p A in
    let s : down (u + v) A ≡ u + down v A = down_shift v A u h m in
    let t : down (L - b) A ≡ down (u + v) A = ap (λ (x : ℕ). down x A) (omega arith) in
    omega (arith, up_ge p A h)

-- the greatest count is as many whole elements as that number holds
pub greatest_count : (w : ℕ) (t : Trailing) (L : ℕ) → 0 < A w t → 0 < t.elem → size_at w t 0 ≤ L → GreatestCount w t L (count_within w t L)
unfolding count_within
greatest_count w t L h e l =
    let x = bytes_within t.base (A w t) (p w t) L in
    let z : size_with t.base (A w t) (p w t) 0 ≤ L = omega (arith, size_mono t.base (A w t) (p w t) 0 (0 * t.elem) h (omega arith)) in
    let g = greatest_bytes t.base (A w t) (p w t) L h z in
    record {
      fits = le_trans (size_mono t.base (A w t) (p w t) (x / t.elem * t.elem) x h (div-mul-le_self x t.elem)) g.fits;
      greatest = λ m f. (le-div_iff_mul-le e).1 (g.greatest (m * t.elem) f);
    }

-- the greatest count is one number, and grows with the limit
pub one_count : {w : ℕ} {t : Trailing} {L m n : ℕ} → GreatestCount w t L m → GreatestCount w t L n → m ≡ n
one_count {w} {t} {L} {m} {n} x y = omega (arith, x.greatest n y.fits, y.greatest m x.fits)

pub count_grows : {w : ℕ} {t : Trailing} {K L m n : ℕ} → K ≤ L → GreatestCount w t K m → GreatestCount w t L n → m ≤ n
count_grows {w} {t} {K} {L} {m} {n} h x y = y.greatest m (omega (arith, x.fits))

-- the padding of `padding_at` is the one number up to M that makes the end of the elements the size, modulo M + 1
pub padding_congruent : (w : ℕ) (t : Trailing) (n : ℕ) → 0 < 2 ^ w → PaddingAt w t n (padding_at w t n)
padding_congruent w t n pos =
    let N = 2 ^ w in
    let x = t.offset + n * t.elem in
    let s = size_at w t n in
    let d = div-add-mod' x N in
    let c : (s + (N - x % N)) + x ≡ s + (x / N + 1) * N = omega (arith, mod-lt x pos) in
    record {
      within = omega (arith, mod-lt (s + (N - x % N)) pos);
      congruent =
          ap (λ (z : ℕ). z % N) {x = padding_at w t n + t.offset + n * t.elem} {y = (s + (N - x % N)) % N + x} (omega arith)
          ∙ mod-add-mod (s + (N - x % N)) N x ∙ ap (λ (z : ℕ). z % N) c ∙ add-mul-mod_self_right s (x / N + 1) N;
    }

pub one_padding : {w : ℕ} {t : Trailing} {n q r : ℕ} → 0 < 2 ^ w → PaddingAt w t n q → PaddingAt w t n r → q ≡ r
one_padding {w} {t} {n} {q} {r} pos x y =
    mod-cancel (2 ^ w) q r (t.offset + n * t.elem) (omega (arith, x.within)) (omega (arith, y.within))
    (ap (λ (z : ℕ). z % 2 ^ w) {x = q + (t.offset + n * t.elem)} {y = q + t.offset + n * t.elem} (omega arith)
    ∙ x.congruent ∙ sym y.congruent
    ∙ ap (λ (z : ℕ). z % 2 ^ w) {x = r + t.offset + n * t.elem} {y = r + (t.offset + n * t.elem)} (omega arith))

-- the code's chain of wrapping sums makes it: x is b + p, y is x less o, r is y and the padding of p + n·e
pub padding_by_sums : (w : ℕ) (t : Trailing) (n x y q r : ℕ) → 0 < A w t → r < 2 ^ w → q ≡ padding (p w t + n * t.elem) (A w t)
    → x ≡ (t.base + p w t) % 2 ^ w → (y + t.offset) % 2 ^ w ≡ x → r ≡ (y + q) % 2 ^ w → PaddingAt w t n r
unfolding size_with
padding_by_sums w t n x y q r pos hr eq ex ey er =
    let N = 2 ^ w in
    let b = t.base in
    let o = t.offset in
    let z = n * t.elem in
    let s : p w t + z + q ≡ up (p w t + z) (A w t) = omega (arith, up_padding (p w t + z) (A w t) pos) in
    record {
      within = omega arith;
      congruent =
          ap (λ (m : ℕ). (m + o + z) % N) er
          ∙ ap (λ (m : ℕ). m % N) {x = (y + q) % N + o + z} {y = (y + q) % N + (o + z)} (omega arith)
          ∙ mod-add-mod (y + q) N (o + z)
          ∙ ap (λ (m : ℕ). m % N) {x = (y + q) + (o + z)} {y = (y + o) + (q + z)} (omega arith)
          ∙ sym (mod-add-mod (y + o) N (q + z))
          ∙ ap (λ (m : ℕ). (m + (q + z)) % N) (ey ∙ ex)
          ∙ mod-add-mod (b + p w t) N (q + z)
          ∙ ap (λ (m : ℕ). m % N) {x = (b + p w t) + (q + z)} {y = b + up (p w t + z) (A w t)} (omega arith);
    }

-- a size that exists is the end of the elements and the padding, modulo M + 1
pub size_by_end : (w : ℕ) (t : Trailing) (n q x r : ℕ) → 0 < 2 ^ w → HasSize w t n → PaddingAt w t n q
    → x ≡ (t.offset + n * t.elem) % 2 ^ w → r ≡ (x + q) % 2 ^ w → r ≡ size_at w t n
size_by_end w t n q x r pos h a ex er =
    let N = 2 ^ w in
    let e = t.offset + n * t.elem in
    er ∙ ap (λ (z : ℕ). (z + q) % N) ex ∙ mod-add-mod e N q
    ∙ ap (λ (z : ℕ). z % N) {x = e + q} {y = q + t.offset + n * t.elem} (omega arith)
    ∙ a.congruent ∙ mod-eq_of_lt (omega arith)

-- advancing moves bytes between phase and base and does not change the size
pub advanced_size : (b A p y x : ℕ) → 0 < A → size_with (b + down (p + y) A) A ((p + y) % A) x ≡ size_with b A p (y + x)
unfolding size_with
advanced_size b A p y x h =
    let v = p + y in
    let d = down v A in
    let s : up (d + (v % A + x)) A ≡ d + up (v % A + x) A = up_shift (v % A + x) A d h (down_multiple v A) in
    let e : up (d + (v % A + x)) A ≡ up (p + (y + x)) A = ap (λ (z : ℕ). up z A) (omega (arith, down_mod v A)) in
    omega arith

-- a factor may be reduced first
factor_mod : (n e a : ℕ) → n * (e % a) % a ≡ n * e % a
factor_mod n e a =
    let d : n * (e / a * a + e % a) ≡ n * e = ap (λ (x : ℕ). n * x) (div-add-mod' e a) in
    let s : n * e ≡ n * (e % a) + n * (e / a) * a = omega arith in
    sym (ap (λ (x : ℕ). x % a) s ∙ add-mul-mod_self_right (n * (e % a)) (n * (e / a)) a)

-- the bytes of n elements, modulo the alignment, by a product that wraps of n and e's remainder
pub remainder : {a : ℕ} (w n e r : ℕ) → PowerOfTwo a → a < 2 ^ w → r ≡ n * (e % a) % 2 ^ w → r % a ≡ n * e % a
remainder {a} w n e r pw h er = ap (λ (x : ℕ). x % a) er ∙ mod-through a (2 ^ w) (n * (e % a)) (divides w pw h) ∙ factor_mod n e a

-- the sums of the functions fit
pub offset_fits : {a q : ℕ} (w b : ℕ) → PowerOfTwo a → a < 2 ^ w → b < 2 ^ w → q < a → down b a + q < 2 ^ w
offset_fits {a} {q} w b pw ha hb h =
    omega (arith, next_multiple a (down b a) (2 ^ w) (down_multiple b a) (divides w pw ha) (omega (arith, down_le b a)))

pub advance_fits : {a : ℕ} (w b q y : ℕ) → PowerOfTwo a → a < 2 ^ w → down b a + q + y < 2 ^ w → b + down (q + y) a < 2 ^ w
advance_fits {a} w b q y pw ha h =
    let m = sum_multiple a (down b a) (down (q + y) a) (down_multiple b a) (down_multiple (q + y) a) in
    omega (arith, next_multiple a (down b a + down (q + y) a) (2 ^ w) m (divides w pw ha) (omega (arith, down_le (q + y) a)), down_near b a (positive pw))
