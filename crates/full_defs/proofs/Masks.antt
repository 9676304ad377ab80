-- What trailing zeros and masks compute of the lowest one bit, over any width w. Assumes nothing.
use mathlib.Core.Path.{◌≡◌, refl, ap, ◌∙◌}
use Prim.Native.Nat.{ℕ, zero, suc, ◌+◌, ◌-◌, ◌*◌, ◌/◌, ◌%◌, ◌^◌, ◌≤◌, ◌<◌}
use native.Mathlib.Nat.{mod-eq_of_lt, two-pow-succ, pos_of_ne-zero, zero-mod, le_of_dvd, dvd_of_mod-eq-zero}
use native.Mathlib.Omega.{arith}
use lib.Count.{count_trailing_zeros, under}
use Rattle.util_defs.specs.Power.{PowerOfTwo}
use Rattle.util_defs.specs.Round.{up}
use Rattle.util_defs.proofs.Powers.{positive, pow_lt_cancel, double}
use Rattle.util_defs.proofs.Rounding.{up_multiple, up_near}
use Rattle.full_defs.specs.Full.{lowest_bit}
use Rattle.full_defs.proofs.Lowest.{LowestBit, lowest_is, lowest_under, one_lowest, low_below}

trailing_lowest : (w e : ℕ) → 0 < e → e < 2 ^ w → LowestBit e (2 ^ count_trailing_zeros w e)
unfolding count_trailing_zeros
trailing_lowest zero e p h = absurd (omega arith)
trailing_lowest (suc w) e p h = go (e % 2) refl (λ (q : 0 < e / 2) (l : e / 2 < 2 ^ w). trailing_lowest w (e / 2) q l)
  where
    go : (r : ℕ) → e % 2 ≡ r → (0 < e / 2 → e / 2 < 2 ^ w → LowestBit (e / 2) (2 ^ count_trailing_zeros w (e / 2))) → LowestBit e (2 ^ under r (count_trailing_zeros w (e / 2)))
    go zero m ih =
        let t = count_trailing_zeros w (e / 2) in
        let l = ih (omega arith) (omega (arith, two-pow-succ w)) in
        record {
          power = record { exponent = suc t; power = refl };
          odd = l.odd;
          is = omega (arith, l.is, ap (λ (z : ℕ). (l.odd + l.odd + 1) * z) (two-pow-succ t));
        }
    go (suc r) m ih = record { power = record { exponent = 0; power = refl }; odd = e / 2; is = omega arith }

-- the lowest one bit of a number of w bits is one of them
lowest_of_bits : (w e : ℕ) → 0 < e → e < 2 ^ w → LowestBit e (lowest_bit w e)
lowest_of_bits w e p h = lowest_is w e (λ z. let m : e % 2 ^ w ≡ e = mod-eq_of_lt h in omega arith)

pub lowest_lt : {e g : ℕ} → LowestBit e g → g ≤ e
lowest_lt {e} {g} l =
    let m : e ≡ (l.odd + l.odd) * g + g = l.is ∙ omega arith in
    omega arith

pub trailing_lt : (w e : ℕ) → 0 < e → e < 2 ^ w → count_trailing_zeros w e < w
trailing_lt w e p h = let l : 2 ^ count_trailing_zeros w e ≤ e = lowest_lt (trailing_lowest w e p h) in pow_lt_cancel (count_trailing_zeros w e) w (omega arith)

-- 1 shifted by the trailing zeros
pub shifted_lowest : (w e : ℕ) → 0 < e → e < 2 ^ w → 1 * 2 ^ count_trailing_zeros w e % 2 ^ w ≡ lowest_bit w e
shifted_lowest w e p h =
    let t = 2 ^ count_trailing_zeros w e in
    let x = trailing_lowest w e p h in
    let l : t ≤ e = lowest_lt x in
    ap (λ (z : ℕ). z % 2 ^ w) {x = 1 * t} {y = t} (omega arith) ∙ mod-eq_of_lt (omega arith) ∙ one_lowest x (lowest_of_bits w e p h)

-- of an element size that a power does not divide, the lowest one bit: it is below the power, so that rounding to it passes nothing
pub record LowUnit (w e a g : ℕ) : Type 0 where
  pub power : PowerOfTwo g
  pub below : g < a
  pub some : 0 < e

pub unit : {a : ℕ} (w e : ℕ) → PowerOfTwo a → a < 2 ^ w → (e % a ≡ 0 → ⊥) → LowUnit w e a (lowest_bit w e)
unit {a} w e x h d =
    let l = lowest_under w e x h d in
    record { power = l.power; below = low_below l x d; some = pos_of_ne-zero (λ z. d (ap (λ (n : ℕ). n % a) z ∙ zero-mod a)) }

pub rounding_fits : {a g : ℕ} (w q : ℕ) → PowerOfTwo a → a < 2 ^ w → q < a → g < a → q + (g - 1) < 2 ^ w
rounding_fits w q x h l m = omega (arith, double w x h)

-- a rounded phase that is not seen as 0 is at least the unit
pub unit_le : (g a q : ℕ) → (up q g % a ≡ 0 → ⊥) → g ≤ up q g
unit_le g a q z = le_of_dvd (pos_of_ne-zero (λ e. z (ap (λ (n : ℕ). n % a) e ∙ zero-mod a))) (dvd_of_mod-eq-zero g (up_multiple q g))

-- so the word of the least phase is no wider than the alignment lets it be
pub least_parts : {a : ℕ} (w e q : ℕ) → PowerOfTwo a → a < 2 ^ w → q < a → (e % a ≡ 0 → ⊥) → (up q (lowest_bit w e) % a ≡ 0 → ⊥)
    → (0 < lowest_bit w e) × ((lowest_bit w e ≤ up q (lowest_bit w e)) × (a + (up q (lowest_bit w e) - lowest_bit w e + 1) < 2 ^ w))
least_parts {a} w e q x h l d z =
    let u = unit w e x h d in
    let g = lowest_bit w e in
    let pos : 0 < g = positive u.power in
    let le : g ≤ up q g = unit_le g a q z in
    (pos, (le, omega (arith, double w x h, up_near q g pos, le)))
