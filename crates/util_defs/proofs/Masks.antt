-- What masks compute, over any width w. Assumes nothing.
use mathlib.Core.Path.{◌≡◌, sym, ap, ap₂, ◌∙◌, subst}
use Prim.Native.Nat.{ℕ, suc, ◌+◌, ◌-◌, ◌*◌, ◌/◌, ◌%◌, ◌^◌, ◌<◌}
use mathlib.Core.Logic.{◌⊎◌, inl, inr}
use native.Mathlib.Nat.{eq-or-lt_of_le, mod-eq_of_lt, mod-lt, add-mod-mod, mod_self, zero-mod}
use native.Mathlib.Omega.{arith}
use lib.Pow.{shr_mod}
use lib.Bits.{bit_and, and_mask, and_high}
use Rattle.util_defs.specs.Power.{PowerOfTwo}
use Rattle.util_defs.specs.Round.{down, padding}
use Rattle.util_defs.proofs.Powers.{positive, exponent_lt, divides}
use Rattle.util_defs.proofs.Rounding.{padding_is}

-- v & (a - 1) is the remainder
pub mask_mod : {a : ℕ} (v : ℕ) → PowerOfTwo a → bit_and v (a - 1) ≡ v % a
mask_mod {a} v p = subst (λ (x : ℕ). bit_and v (x - 1) ≡ v % x) (sym p.power) (and_mask v p.exponent)

-- v & !(a - 1), at w bits, rounds down
pub mask_down : {a : ℕ} (w v : ℕ) → PowerOfTwo a → a < 2 ^ w → v < 2 ^ w → bit_and v ((2 ^ w - 1) - (a - 1)) ≡ down v a
unfolding down
mask_down {a} w v p ha hv =
    let k = p.exponent in
    let j = w - k in
    let l : k < w = exponent_lt w p ha in
    let e : j + k ≡ w = omega arith in
    let x : (2 ^ w - 1) - (a - 1) ≡ 2 ^ w - a = omega (arith, positive p) in
    let y : 2 ^ w - a ≡ 2 ^ (j + k) - 2 ^ k = ap₂ (λ (m n : ℕ). 2 ^ m - n) (sym e) p.power in
    ap (bit_and v) (x ∙ y) ∙ and_high v j k
    ∙ ap (λ (n : ℕ). n * 2 ^ k) (shr_mod j k (subst (λ (n : ℕ). v < 2 ^ n) (sym e) hv))
    ∙ ap (λ (n : ℕ). v / n * n) (sym p.power)

-- !(v - 1) & (a - 1), at w bits, the difference s wrapping, is the padding
pub mask_padding : {a : ℕ} (w v s : ℕ) → PowerOfTwo a → a < 2 ^ w → s < 2 ^ w → (s + 1) % 2 ^ w ≡ v
    → bit_and ((2 ^ w - 1) - s) (a - 1) ≡ padding v a
mask_padding {a} w v s p ha hs e =
    mask_mod t p ∙ padding_is v a (t % a) (positive p) (mod-lt t (positive p)) (add-mod-mod v t a ∙ whole (eq-or-lt_of_le hs))
  where
    t : ℕ
    t = (2 ^ w - 1) - s

    whole : (suc s ≡ 2 ^ w) ⊎ (suc s < 2 ^ w) → (v + t) % a ≡ 0
    whole (inl q) =
        let z : v ≡ 0 = sym e ∙ ap (λ (x : ℕ). x % 2 ^ w) (omega arith) ∙ mod_self (2 ^ w) in
        let n : v + t ≡ 0 = omega arith in
        ap (λ (x : ℕ). x % a) n ∙ zero-mod a
    whole (inr l) =
        let z : v ≡ s + 1 = sym e ∙ mod-eq_of_lt (omega arith) in
        let n : v + t ≡ 2 ^ w = omega arith in
        ap (λ (x : ℕ). x % a) n ∙ divides w p ha
