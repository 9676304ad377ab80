-- Products of numbers of w bits. Assumes nothing.
use mathlib.Core.Path.{◌≡◌, sym, ap, subst, ◌∙◌}
use Prim.Native.Nat.{ℕ, ◌+◌, ◌-◌, ◌*◌, ◌/◌, ◌%◌, ◌^◌, ◌≤◌, ◌<◌}
use lib.Bits.{bit_and, and_mask, mask_lt}
use lib.Pow.{pow-add, shl_lt, split}
use borrow.Author.Tests.{le-leb, lt-leb}
use native.Mathlib.Nat.{le_of_lt, lt_of_le_of_lt, mul-le-mul_left, mul-add-mod_self_right, div-add-mod', add-mod-mod, mod-lt, mod-eq_of_lt, div-mul-le_self, mul-div_cancel}
use native.Mathlib.Omega.{arith}
use Rattle.util_defs.specs.Width.{M, fitting, passes, checked}
use Rattle.util_defs.proofs.Refusals.{known, tells_le}

-- a number of s bits times one of t bits has at most s + t bits
pub mul_lt_pow : {a b : ℕ} (s t : ℕ) → a < 2 ^ s → b < 2 ^ t → a * b < 2 ^ (s + t)
mul_lt_pow {a} s t ha hb = lt_of_le_of_lt (mul-le-mul_left a (le_of_lt hb)) (shl_lt s t ha)

-- w bits hold a number; they do not
pub checked_within : (w x : ℕ) → x ≤ M w → checked w x ≡ fitting x
checked_within w x h = simp (le-leb x (M w) h)

pub checked_past : (w x : ℕ) → M w < x → checked w x ≡ passes
checked_past w x h = simp (lt-leb x (M w) h)

-- a number of w bits is what is left of it when it wraps
pub checked_wrapped : (w x y : ℕ) → y ≡ x % 2 ^ w → x < 2 ^ w → fitting y ≡ checked w x
checked_wrapped w x y e h = ap fitting (e ∙ mod-eq_of_lt h) ∙ sym (checked_within w x (omega arith))

-- a product that wraps at n, divided by one factor: it gives the other exactly where a * b is below n
pub product_within : (n a b : ℕ) → 0 < n → a * b % n / b ≡ a → a * b < n
product_within n a b p e =
    let l : a * b ≤ a * b % n = subst (λ (x : ℕ). x * b ≤ a * b % n) e (div-mul-le_self (a * b % n) b) in
    omega (arith, mod-lt (a * b) p)

pub product_past : (n a b : ℕ) → 0 < b → (a * b % n / b ≡ a → ⊥) → n ≤ a * b
product_past n a b p g = known (tells_le n (a * b)) (λ f. g (ap (λ (x : ℕ). x / b) (mod-eq_of_lt (omega (arith, f))) ∙ mul-div_cancel a p))

-- a product modulo 2 ^ (h + h) by halves of h bits: the low halves' product, and the cross products' sum one half up; both sums wrap
pub by_halves : (B a0 a1 b0 b1 : ℕ) → (a0 * b0 + (a1 * b0 + a0 * b1) * B) % (B * B) ≡ (a1 * B + a0) * (b1 * B + b0) % (B * B)
by_halves B a0 a1 b0 b1 =
    let whole : (a1 * B + a0) * (b1 * B + b0) ≡ a1 * b1 * (B * B) + (a0 * b0 + (a1 * b0 + a0 * b1) * B) = omega arith in
    sym (ap (λ (n : ℕ). n % (B * B)) whole ∙ mul-add-mod_self_right (a1 * b1) (B * B) (a0 * b0 + (a1 * b0 + a0 * b1) * B))

abbrev pub lo : ℕ → ℕ → ℕ
lo h n = bit_and n (2 ^ h - 1)

abbrev pub hi : ℕ → ℕ → ℕ
hi h n = n / 2 ^ h

pub lo_lt : (h n : ℕ) → lo h n < 2 ^ h
lo_lt h n = mask_lt n h

pub wrapped : (h a b x : ℕ) → x ≡ (hi h a * lo h b + lo h a * hi h b) % 2 ^ (h + h)
    → (lo h a * lo h b + (x * 2 ^ h) % 2 ^ (h + h)) % 2 ^ (h + h) ≡ a * b % 2 ^ (h + h)
wrapped h a b x e =
    add-mod-mod (lo h a * lo h b) (x * 2 ^ h) (2 ^ (h + h))
    ∙ ap (λ (n : ℕ). (lo h a * lo h b + n * 2 ^ h) % 2 ^ (h + h)) e
    ∙ unwrapped
    ∙ (λ i. sums (λ n. and_mask n h i) % pow-add 2 h h i)
    ∙ by_halves (2 ^ h) (a % 2 ^ h) (a / 2 ^ h) (b % 2 ^ h) (b / 2 ^ h)
    ∙ (λ i. split a h i * split b h i % sym (pow-add 2 h h) i)
  where
    sums : (ℕ → ℕ) → ℕ
    sums l = l a * l b + (a / 2 ^ h * l b + l a * (b / 2 ^ h)) * 2 ^ h

    unwrapped : (lo h a * lo h b + (hi h a * lo h b + lo h a * hi h b) % 2 ^ (h + h) * 2 ^ h) % 2 ^ (h + h) ≡ sums (lo h) % 2 ^ (h + h)
    unwrapped =
        let m = 2 ^ (h + h) in
        let s = hi h a * lo h b + lo h a * hi h b in
        let d : (s / m * m + s % m) * 2 ^ h ≡ s * 2 ^ h = ap (λ (n : ℕ). n * 2 ^ h) (div-add-mod' s m) in
        let w : lo h a * lo h b + s * 2 ^ h ≡ s / m * 2 ^ h * m + (lo h a * lo h b + s % m * 2 ^ h) = omega arith in
        sym (ap (λ (n : ℕ). n % m) w ∙ mul-add-mod_self_right (s / m * 2 ^ h) m (lo h a * lo h b + s % m * 2 ^ h))
