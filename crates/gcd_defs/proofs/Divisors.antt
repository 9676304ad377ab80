-- Laws of the greatest common divisor. Assumes nothing.
use mathlib.Core.Path.{◌≡◌}
use Prim.Native.Nat.{ℕ, zero, suc, ◌%◌, ◌≤◌, ◌<◌, ◌∣◌}
use native.Mathlib.Nat.{dvd_refl, dvd-zero, dvd-mod_iff, dvd_antisymm, le_of_dvd, mod-lt}
use native.Mathlib.Omega.{arith}
use Rattle.gcd_defs.specs.Gcd.{GreatestDivisor, by_remainders, gcd}

-- it is one number
pub one_divisor : {a b g h : ℕ} → GreatestDivisor a b g → GreatestDivisor a b h → g ≡ h
one_divisor {a} {b} {g} {h} x y = dvd_antisymm (y.greatest g x.left x.right) (x.greatest h y.left y.right)

-- where not both are 0 no number that divides both is larger
pub largest : {a b g : ℕ} → GreatestDivisor a b g → 0 < g → (d : ℕ) → d ∣ a → d ∣ b → d ≤ g
largest x h d p q = le_of_dvd h (x.greatest d p q)

-- that of a and 0 is a; that of b and the remainder of a by b is that of a and b
with_zero : (a : ℕ) → GreatestDivisor a 0 a
with_zero a = record { left = dvd_refl a; right = dvd-zero a; greatest = λ d p q. p }

by_remainder : {a b g : ℕ} → GreatestDivisor b (a % b) g → GreatestDivisor a b g
by_remainder {a} {b} {g} x = record {
  left = (dvd-mod_iff g x.left).0 x.right;
  right = x.left;
  greatest = λ d p q. x.greatest d q ((dvd-mod_iff d q).1 p);
}

remainders_are : (k a b : ℕ) → b < k → GreatestDivisor a b (by_remainders k a b)
unfolding by_remainders
remainders_are zero a b h = absurd (omega arith)
remainders_are (suc k) a zero h = with_zero a
remainders_are (suc k) a (suc b) h = by_remainder (remainders_are k (suc b) (a % suc b) (omega (arith, mod-lt a (positive b))))
  where
    positive : (b : ℕ) → 0 < suc b
    positive b = omega arith

-- what remainders give is it
pub gcd_is : (a b : ℕ) → GreatestDivisor a b (gcd a b)
unfolding gcd
gcd_is a b = remainders_are (suc b) a b (omega arith)

-- so that one remainder more changes nothing
pub gcd_step : (a b : ℕ) → gcd b (a % b) ≡ gcd a b
gcd_step a b = one_divisor (by_remainder (gcd_is b (a % b))) (gcd_is a b)

pub gcd_zero : (a : ℕ) → gcd a 0 ≡ a
gcd_zero a = one_divisor (gcd_is a 0) (with_zero a)
