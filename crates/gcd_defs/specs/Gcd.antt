-- The greatest common divisor. Assumes nothing.
use Rattle.std.specs.Prelude.{ℕ, zero, suc, ◌%◌}
use Rattle.std.specs.Int.{◌∣◌}

-- g is the greatest common divisor of a and b: it divides both, and every number that divides both divides it. That of 0 and 0 is
-- 0; of a number and 0 it is the number; else it is the largest number that divides both (`largest`)
pub record GreatestDivisor (a b g : ℕ) : Type 0 where
  pub left : g ∣ a
  pub right : g ∣ b
  pub greatest : (d : ℕ) → d ∣ a → d ∣ b → d ∣ g

-- that number, by remainders: while b is not 0, b and the remainder of a by b have the same. Each remainder is below the one
-- before it, so that there are b of them at most
unfoldable pub by_remainders : ℕ → ℕ → ℕ → ℕ
by_remainders zero a b = a
by_remainders (suc k) a zero = a
by_remainders (suc k) a (suc b) = by_remainders k (suc b) (a % suc b)

unfoldable pub gcd : ℕ → ℕ → ℕ
gcd a b = by_remainders (suc b) a b
