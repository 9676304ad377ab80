-- The column of powers: one test over all codes, which is computed, and what it says at each. Assumes nothing.
use mathlib.Core.Path.{◌≡◌, refl, sym, subst}
use mathlib.Core.Bool.{Bool, true, false, ◌&&◌}
use mathlib.Core.Logic.{⊎_elim}
use Prim.Native.Nat.{ℕ, zero, suc, ◌+◌, ◌*◌, ◌/◌, ◌%◌, ◌^◌, ◌<◌}
use native.Mathlib.Nat.{eq-or-lt_of_le, le_of_suc-le-suc, not-suc-le-zero}
use native.Mathlib.Omega.{arith}
use borrow.Author.Tests.{ltb-true, eqb-true}
use lib.Bits.{bit_and}
use lib.Dec.{eqb, ltb}
use lib.ListN.{get_or}
use Rattle.scalar.specs.Scalar.{target64}

-- a test passes at each number below n
every : (ℕ → Bool) → ℕ → Bool
every f zero = true
every f (suc n) = f n && every f n

left_of : (a b : Bool) → (a && b) ≡ true → a ≡ true
left_of true b t = refl
left_of false b t = t

right_of : (a b : Bool) → (a && b) ≡ true → b ≡ true
right_of true b t = t
right_of false b t = absurd (let z : ◌≡◌ {A = ℕ} 0 1 = cc in omega arith)

each : (f : ℕ → Bool) (n : ℕ) → every f n ≡ true → (k : ℕ) → k < n → f k ≡ true
unfolding every
each f zero t k h = absurd (not-suc-le-zero h)
each f (suc n) t k h =
    ⊎_elim (λ (e : k ≡ n). subst (λ (m : ℕ). f m ≡ true) (sym e) (left_of (f n) (every f n) t))
    (λ (l : k < n). each f n (right_of (f n) (every f n) t) k l) (eq-or-lt_of_le (le_of_suc-le-suc h))

-- the column, as the code has it: the powers of the sizes, two bits for each code, that of code 0 lowest
abbrev powers : ℕ
powers = 0 + 4 * (1 + 4 * (2 + 4 * (3 + 4 * (2 + 4 * (3 + 4 * (2 + 4 * (0 + 4 * 3)))))))

-- the power at a code
abbrev pub power_at : ℕ → ℕ
power_at code = bit_and (powers / 2 ^ (2 * code)) 3

-- at a code: 64 bits hold two to the power, and it is the scalar's size
abbrev right : ℕ → Bool
right code = ltb (power_at code) 64 && eqb (1 * 2 ^ power_at code % 2 ^ 64) (get_or target64.sizes code 0)

column : (code : ℕ) → code < 9 → right code ≡ true
unfolding every
column = each right 9 refl

pub power_below : (code : ℕ) → code < 9 → power_at code < 64
power_below code h = ltb-true (power_at code) 64 (left_of (ltb (power_at code) 64) _ (column code h))

pub size_at_lem : (code : ℕ) → code < 9 → 1 * 2 ^ power_at code % 2 ^ 64 ≡ get_or target64.sizes code 0
size_at_lem code h = eqb-true (1 * 2 ^ power_at code % 2 ^ 64) (get_or target64.sizes code 0) (right_of (ltb (power_at code) 64) _ (column code h))
