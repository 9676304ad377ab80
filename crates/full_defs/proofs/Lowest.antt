-- The lowest one bit of a number, and multiples of powers of two. Assumes nothing.
use mathlib.Core.Path.{◌≡◌, refl, sym, ap, ap₂, ◌∙◌, subst}
use mathlib.Core.Bool.{Bool, true, false, cond}
use mathlib.Core.Logic.{◌⊎◌, inl, inr}
use Prim.Native.Nat.{ℕ, zero, suc, ◌+◌, ◌-◌, ◌*◌, ◌/◌, ◌%◌, ◌^◌, ◌≤◌, ◌<◌, max}
use native.Mathlib.Nat.{le_antisymm, lt_of_not-le, mod-eq_of_lt, mul-add-mod_self_right, mul-mod_left, two-pow-succ, max-eq_left, max-eq_right, le-max_left, le-max_right}
use native.Mathlib.Omega.{arith}
use native.Mathlib.Decide.{dec_le}
use lib.Pow.{pow_mono, pow-add}
use lib.Dec.{eqb}
use borrow.Author.Tests.{eqb-true, eqb-false}
use Rattle.util_defs.specs.Power.{PowerOfTwo}
use Rattle.util_defs.proofs.Powers.{positive, pow_lt_cancel, power_divides, through, max_power, divides}
use Rattle.util_defs.proofs.Rounding.{multiple}
use Rattle.full_defs.specs.Full.{lowest_bit}

-- g is the lowest one bit of v: v is an odd multiple of the power of two g
pub record LowestBit (v g : ℕ) : Type 0 where
  pub power : PowerOfTwo g
  pub odd : ℕ
  pub is : v ≡ (odd + odd + 1) * g

-- of two powers the smaller has the smaller exponent, and doubled some times is the larger
pub exponents_lt : {a b : ℕ} (x : PowerOfTwo a) (y : PowerOfTwo b) → a < b → x.exponent < y.exponent
exponents_lt {a} {b} x y h =
    pow_lt_cancel x.exponent y.exponent (subst (λ (z : ℕ). z < 2 ^ y.exponent) x.power (subst (λ (z : ℕ). a < z) y.power h))

pub doublings : {a b : ℕ} (x : PowerOfTwo a) (y : PowerOfTwo b) → x.exponent ≤ y.exponent → b ≡ 2 ^ (y.exponent - x.exponent) * a
doublings {a} {b} x y h =
    let k = y.exponent - x.exponent in
    let e : y.exponent ≡ k + x.exponent = omega arith in
    y.power ∙ ap (λ (z : ℕ). 2 ^ z) e ∙ pow-add 2 k x.exponent ∙ ap (λ (z : ℕ). 2 ^ k * z) (sym x.power)

-- twice a power is one, and at most any larger one
pub twice_power : {a : ℕ} → PowerOfTwo a → PowerOfTwo (a + a)
twice_power x = record { exponent = suc x.exponent; power = ap₂ ◌+◌ x.power x.power ∙ sym (two-pow-succ x.exponent) }

pub twice_le : {a b : ℕ} → PowerOfTwo a → PowerOfTwo b → a < b → a + a ≤ b
twice_le x y h =
    let m : 2 ^ suc x.exponent ≤ 2 ^ y.exponent = pow_mono (exponents_lt x y h) in
    omega (arith, x.power, y.power, two-pow-succ x.exponent)

-- the larger of two powers divides e exactly when both do
pub max_divides : {a b : ℕ} (e : ℕ) → PowerOfTwo a → PowerOfTwo b → e % max a b ≡ 0 → (e % a ≡ 0) × (e % b ≡ 0)
max_divides {a} {b} e x y h =
    let m = max_power x y in
    (through a (max a b) e (power_divides x m (le-max_left a b)) h, through b (max a b) e (power_divides y m (le-max_right a b)) h)

pub divides_max : (a b e : ℕ) → e % a ≡ 0 → e % b ≡ 0 → e % max a b ≡ 0
divides_max a b e f g = go (dec_le a b)
  where
    go : Dec (a ≤ b) → e % max a b ≡ 0
    go (yes j) = subst (λ (z : ℕ). e % z ≡ 0) (sym (max-eq_right j)) g
    go (no j) = subst (λ (z : ℕ). e % z ≡ 0) (sym (max-eq_left (omega arith))) f

-- a number is even or odd
abbrev pub Halves : ℕ → Type 0
Halves c = ((d : ℕ) × (c ≡ d + d)) ⊎ ((d : ℕ) × (c ≡ d + d + 1))

pub halves : (c : ℕ) → Halves c
halves c = go (c % 2) refl
  where
    go : (r : ℕ) → c % 2 ≡ r → Halves c
    go zero e = inl (c / 2, omega arith)
    go (suc r) e = inr (c / 2, omega arith)

-- what 2 ^ k divides and 2 ^ (k + 1) does not has the lowest one bit 2 ^ k
lowest_at : (k v : ℕ) → v % 2 ^ k ≡ 0 → (v % 2 ^ suc k ≡ 0 → ⊥) → LowestBit v (2 ^ k)
lowest_at k v e h = go (halves (v / 2 ^ k))
  where
    g : ℕ
    g = 2 ^ k

    m : v / g * g ≡ v
    m = multiple v g e

    go : Halves (v / g) → LowestBit v g
    go (inl d) =
        let x : v ≡ d.0 * (g + g) = sym m ∙ ap (λ (z : ℕ). z * g) d.1 ∙ omega arith in
        let z : v ≡ d.0 * 2 ^ suc k = x ∙ ap (λ (a : ℕ). d.0 * a) (sym (two-pow-succ k)) in
        absurd (h (ap (λ (a : ℕ). a % 2 ^ suc k) z ∙ mul-mod_left d.0 (2 ^ suc k)))
    go (inr d) = record { power = record { exponent = k; power = refl }; odd = d.0; is = sym m ∙ ap (λ (z : ℕ). z * g) d.1 }

-- `lowest_bit` gives it of every number that is no multiple of 2 ^ w
pub lowest_is : (w v : ℕ) → (v % 2 ^ w ≡ 0 → ⊥) → LowestBit v (lowest_bit w v)
unfolding lowest_bit
lowest_is zero v h = absurd (h (omega arith))
lowest_is (suc k) v h = go (eqb (v % 2 ^ k) 0) refl (lowest_is k v)
  where
    go : (b : Bool) → eqb (v % 2 ^ k) 0 ≡ b → ((v % 2 ^ k ≡ 0 → ⊥) → LowestBit v (lowest_bit k v)) → LowestBit v (cond b (2 ^ k) (lowest_bit k v))
    go true e f = lowest_at k v (eqb-true (v % 2 ^ k) 0 e) h
    go false e f = f (eqb-false (v % 2 ^ k) 0 e)

-- so of every number that a power of w bits does not divide
pub lowest_under : {a : ℕ} (w v : ℕ) → PowerOfTwo a → a < 2 ^ w → (v % a ≡ 0 → ⊥) → LowestBit v (lowest_bit w v)
lowest_under {a} w v x h n = lowest_is w v (λ e. n (through a (2 ^ w) v (divides w x h) e))

-- the lowest one bit of e divides e, and every power that does not
pub low_divides : {e g : ℕ} → LowestBit e g → e % g ≡ 0
low_divides {e} {g} l = ap (λ (z : ℕ). z % g) l.is ∙ mul-mod_left (l.odd + l.odd + 1) g

pub low_below : {e g a : ℕ} → LowestBit e g → PowerOfTwo a → (e % a ≡ 0 → ⊥) → g < a
low_below {e} {g} {a} l x h = lt_of_not-le (λ j. h (through a g e (power_divides x l.power j) (low_divides l)))

pub low_under : {e g a : ℕ} → LowestBit e g → PowerOfTwo a → (e % a ≡ 0 → ⊥) → a % g ≡ 0
low_under {e} {g} {a} l x h =
    let j : g < a = low_below l x h in
    power_divides l.power x (omega arith)

-- an odd multiple of A is none of 2·A, so that no number has two lowest one bits
pub odd_rest : (o A : ℕ) → 0 < A → (o + o + 1) * A % (A + A) ≡ 0 → ⊥
odd_rest o A pos e =
    let v : (o + o + 1) * A ≡ o * (A + A) + A = omega arith in
    let z : A % (A + A) ≡ 0 = sym (mul-add-mod_self_right o (A + A) A) ∙ ap (λ (n : ℕ). n % (A + A)) (sym v) ∙ e in
    let r : A % (A + A) ≡ A = mod-eq_of_lt (omega arith) in
    omega arith

lowest_le : {v g h : ℕ} → LowestBit v g → LowestBit v h → h ≤ g
lowest_le {v} {g} {h} x y = go (dec_le h g)
  where
    go : Dec (h ≤ g) → h ≤ g
    go (yes j) = j
    go (no j) =
        let d : h % (g + g) ≡ 0 = power_divides (twice_power x.power) y.power (twice_le x.power y.power (omega arith)) in
        absurd (odd_rest x.odd g (positive x.power) (subst (λ (z : ℕ). z % (g + g) ≡ 0) x.is (through (g + g) h v d (low_divides y))))

pub one_lowest : {v g h : ℕ} → LowestBit v g → LowestBit v h → g ≡ h
one_lowest x y = le_antisymm (lowest_le y x) (lowest_le x y)

-- odd multiples of g reach every multiple of g, modulo a power of two
abbrev Reached : ℕ → ℕ → ℕ → ℕ → Type 0
Reached g u j v = (n : ℕ) × (c : ℕ) × (v * g + n * ((u + u + 1) * g) ≡ c * (2 ^ j * g))

pub reach : (g u j v : ℕ) → Reached g u j v
reach g u zero v = (0, v, omega arith)
reach g u (suc j) v = go (reach g u j v)
  where
    q : ℕ
    q = 2 ^ j * g

    t : q + q ≡ 2 ^ suc j * g
    t = omega (arith, ap (λ (z : ℕ). z * g) (two-pow-succ j))

    go : Reached g u j v → Reached g u (suc j) v
    go r = half (halves r.1)
      where
        half : Halves r.1 → Reached g u (suc j) v
        half (inl d) =
            let x : r.1 * q ≡ (d.0 + d.0) * q = ap (λ (z : ℕ). z * q) d.1 in
            let y : d.0 * (q + q) ≡ d.0 * (2 ^ suc j * g) = ap (λ (z : ℕ). d.0 * z) t in
            (r.0, d.0, omega (arith, r.2))
        half (inr d) =
            let x : r.1 * q ≡ (d.0 + d.0 + 1) * q = ap (λ (z : ℕ). z * q) d.1 in
            let y : (d.0 + u + 1) * (q + q) ≡ (d.0 + u + 1) * (2 ^ suc j * g) = ap (λ (z : ℕ). (d.0 + u + 1) * z) t in
            (r.0 + 2 ^ j, d.0 + u + 1, omega (arith, r.2))
