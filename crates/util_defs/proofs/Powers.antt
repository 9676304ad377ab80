-- Powers of two, over any width. Assumes nothing.
use mathlib.Core.Path.{◌≡◌, refl, sym, ap, ap₂, ◌∙◌, subst}
use Prim.Native.Nat.{ℕ, zero, suc, ◌+◌, ◌-◌, ◌*◌, ◌%◌, ◌^◌, ◌≤◌, ◌<◌, max}
use mathlib.Core.Logic.{◌⊎◌, inl, inr}
use mathlib.Core.Bool.{Bool, true, false, ◌||◌}
use native.Mathlib.Nat.{eq-or-lt_of_le, not-le_of_lt, lt_of_not-le, mod_self, mul-mod_left, mod-mod_of_dvd, dvd_of_mod-eq-zero, zero-mod, max-eq_left, max-eq_right, le_of_lt, two-pow-succ}
use native.Mathlib.Omega.{arith}
use lib.Pow.{pow_pos, pow_mono, pow-add}
use lib.Bits.{bit_and, and_mask, and_block}
use lib.Count.{leading_top}
use lib.Dec.{eqb, leb}
use borrow.Author.Tests.{eqb-true, eqb-false, leb-true, leb-false}
use Rattle.util_defs.specs.Power.{PowerOfTwo, power_of_two}
use Rattle.util_defs.specs.Refusal.{Tells, holds, fails}

pub positive : {a : ℕ} → PowerOfTwo a → 0 < a
positive {a} p = subst (λ (x : ℕ). 0 < x) (sym p.power) (pow_pos p.exponent)

-- of two powers, the smaller has the smaller exponent
pub pow_lt_cancel : (a b : ℕ) → 2 ^ a < 2 ^ b → a < b
pow_lt_cancel a b h = lt_of_not-le (λ g. not-le_of_lt h (pow_mono g))

-- a power that w bits hold has an exponent below w
pub exponent_lt : {a : ℕ} (w : ℕ) (p : PowerOfTwo a) → a < 2 ^ w → p.exponent < w
exponent_lt w p h = pow_lt_cancel p.exponent w (subst (λ (x : ℕ). x < 2 ^ w) p.power h)

-- twice a power that w bits hold is at most 2 ^ w
pub double : {a : ℕ} (w : ℕ) → PowerOfTwo a → a < 2 ^ w → a + a ≤ 2 ^ w
double {a} w p h =
    let m : 2 ^ suc p.exponent ≤ 2 ^ w = pow_mono (exponent_lt w p h) in
    omega (arith, p.power)

-- a power that w bits hold divides 2 ^ w
pub divides : {a : ℕ} (w : ℕ) → PowerOfTwo a → a < 2 ^ w → 2 ^ w % a ≡ 0
divides {a} w p ha =
    let k = p.exponent in
    let l : k < w = exponent_lt w p ha in
    let e : (w - k) + k ≡ w = omega arith in
    ap₂ (λ (m n : ℕ). 2 ^ m % n) (sym e) p.power ∙ ap (λ (n : ℕ). n % 2 ^ k) (pow-add 2 (w - k) k) ∙ mul-mod_left (2 ^ (w - k)) (2 ^ k)

-- the larger of two powers is a multiple of the smaller
pub power_divides : {a b : ℕ} → PowerOfTwo a → PowerOfTwo b → a ≤ b → b % a ≡ 0
power_divides {a} {b} x y h = go (eq-or-lt_of_le h)
  where
    go : (a ≡ b) ⊎ (a < b) → b % a ≡ 0
    go (inl e) = ap (λ (z : ℕ). b % z) e ∙ mod_self b
    go (inr l) = ap (λ (z : ℕ). z % a) y.power ∙ divides y.exponent x (subst (λ (z : ℕ). a < z) y.power l)

-- a multiple of b is one of whatever divides b; a remainder by b, by that, is the remainder by that
pub through : (a b v : ℕ) → b % a ≡ 0 → v % b ≡ 0 → v % a ≡ 0
through a b v d h = sym (mod-mod_of_dvd a v (dvd_of_mod-eq-zero a d)) ∙ ap (λ (z : ℕ). z % a) h ∙ zero-mod a

pub mod-through : (a b v : ℕ) → b % a ≡ 0 → v % b % a ≡ v % a
mod-through a b v d = mod-mod_of_dvd a v (dvd_of_mod-eq-zero a d)

-- the larger and the smaller of two powers are powers
pub max_power : {a b : ℕ} → PowerOfTwo a → PowerOfTwo b → PowerOfTwo (max a b)
max_power {a} {b} x y = go (leb a b) refl
  where
    go : (t : Bool) → leb a b ≡ t → PowerOfTwo (max a b)
    go true e = subst PowerOfTwo (sym (max-eq_right (leb-true a b e))) y
    go false e = subst PowerOfTwo (sym (max-eq_left (le_of_lt (leb-false a b e)))) x

-- a number that passes the test of w bits is a power
pub test_sound : (w a : ℕ) → power_of_two w a ≡ true → PowerOfTwo a
unfolding power_of_two
test_sound zero a e = let z : ◌≡◌ {A = ℕ} 0 1 = cc in absurd (omega arith)
test_sound (suc k) a e = go (eqb a (2 ^ k)) refl e (test_sound k a)
  where
    go : (t : Bool) → eqb a (2 ^ k) ≡ t → (t || power_of_two k a) ≡ true → (power_of_two k a ≡ true → PowerOfTwo a) → PowerOfTwo a
    go true q e f = record { exponent = k; power = eqb-true a (2 ^ k) q }
    go false q e f = f e

pub test_below : (w a : ℕ) → power_of_two w a ≡ true → a < 2 ^ w
unfolding power_of_two
test_below zero a e = let z : ◌≡◌ {A = ℕ} 0 1 = cc in absurd (omega arith)
test_below (suc k) a e = go (eqb a (2 ^ k)) refl e (test_below k a)
  where
    go : (t : Bool) → eqb a (2 ^ k) ≡ t → (t || power_of_two k a) ≡ true → (power_of_two k a ≡ true → a < 2 ^ k) → a < 2 ^ suc k
    go true q e f = omega (arith, eqb-true a (2 ^ k) q, two-pow-succ k, pow_pos k)
    go false q e f = omega (arith, f e, two-pow-succ k)

-- and each power that w bits hold passes it
test_complete : (w k : ℕ) → k < w → power_of_two w (2 ^ k) ≡ true
unfolding power_of_two
test_complete zero k h = absurd (omega arith)
test_complete (suc w) k h = go (eqb (2 ^ k) (2 ^ w)) refl (eq-or-lt_of_le h) (test_complete w k)
  where
    go : (t : Bool) → eqb (2 ^ k) (2 ^ w) ≡ t → (suc k ≡ suc w) ⊎ (suc k < suc w) → (k < w → power_of_two w (2 ^ k) ≡ true) → (t || power_of_two w (2 ^ k)) ≡ true
    go true q s f = refl
    go false q (inl e) f = absurd (eqb-false (2 ^ k) (2 ^ w) q (ap (λ (x : ℕ). 2 ^ x) (omega arith)))
    go false q (inr l) f = f (omega arith)

pub tells_power : (w a : ℕ) → a < 2 ^ w → Tells (PowerOfTwo a) (power_of_two w a)
tells_power w a h = go (power_of_two w a) refl
  where
    go : (t : Bool) → power_of_two w a ≡ t → Tells (PowerOfTwo a) t
    go true e = holds (test_sound w a e)
    go false e = fails (λ p.
        let q : power_of_two w a ≡ true = ap (power_of_two w) p.power ∙ test_complete w p.exponent (exponent_lt w p h) in
        let z : ◌≡◌ {A = ℕ} 0 1 = cc in
        omega arith)

-- nothing strictly between two powers that follow each other is a power
none_between : (j a : ℕ) → 2 ^ j < a → a < 2 ^ suc j → PowerOfTwo a → ⊥
none_between j a l h p =
    let low : j < p.exponent = pow_lt_cancel j p.exponent (subst (λ (x : ℕ). 2 ^ j < x) p.power l) in
    let high : p.exponent < suc j = pow_lt_cancel p.exponent (suc j) (subst (λ (x : ℕ). x < 2 ^ suc j) p.power h) in
    omega arith

-- a & (a - 1) keeps the highest bit of a number that is no power
and_between : (j a : ℕ) → 2 ^ j < a → a < 2 ^ suc j → 0 < bit_and a (a - 1)
and_between j a l h =
    let q = 2 ^ j in
    let r = a - q in
    let e : bit_and (1 * q + r) (1 * q + (r - 1)) ≡ bit_and 1 1 * q + bit_and r (r - 1) = and_block j 1 1 r (r - 1) (omega arith) (omega arith) in
    let x : 1 * q + r ≡ a = omega arith in
    let y : 1 * q + (r - 1) ≡ a - 1 = omega arith in
    let f : bit_and a (a - 1) ≡ 1 * q + bit_and r (r - 1) = sym (ap₂ bit_and x y) ∙ e in
    omega (arith, pow_pos j)

-- the test a & (a - 1) == 0, of a number that is not 0
pub tells_mask : (w a : ℕ) → a < 2 ^ w → 0 < a → Tells (PowerOfTwo a) (eqb (bit_and a (a - 1)) 0)
tells_mask w a h p = let top = leading_top w a p h in go top.0 top.3 (eqb (bit_and a (a - 1)) 0) refl (eq-or-lt_of_le top.2)
  where
    go : (j : ℕ) → a < 2 ^ suc j → (b : Bool) → eqb (bit_and a (a - 1)) 0 ≡ b → (2 ^ j ≡ a) ⊎ (2 ^ j < a) → Tells (PowerOfTwo a) b
    go j h true e (inl q) = holds (record { exponent = j; power = sym q })
    go j h true e (inr l) = absurd (omega (arith, and_between j a l h, eqb-true (bit_and a (a - 1)) 0 e))
    go j h false e (inl q) = absurd (eqb-false _ _ e (subst (λ (x : ℕ). bit_and x (x - 1) ≡ 0) q (and_mask (2 ^ j) j ∙ mod_self (2 ^ j))))
    go j h false e (inr l) = fails (none_between j a l h)
