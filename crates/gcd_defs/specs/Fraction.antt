-- Fractions of whole numbers in lowest terms. Assumes nothing.
use Rattle.std.specs.Prelude.{◌≡◌, ℕ, ◌*◌, ◌/◌, ◌<◌}
use Rattle.std.specs.Int.{◌∣◌}
use Rattle.gcd_defs.specs.Gcd.{gcd}

-- one number over another
pub record Fraction : Type 0 where
  pub numerator : ℕ
  pub denominator : ℕ

-- f is the quotient of a and b in lowest terms: it is no division by 0, it equals a over b, and no number but 1 divides both of
-- its numbers
pub record LowestTerms (a b : ℕ) (f : Fraction) : Type 0 where
  pub positive : 0 < f.denominator
  pub equal : f.numerator * b ≡ a * f.denominator
  pub lowest : (d : ℕ) → d ∣ f.numerator → d ∣ f.denominator → d ≡ 1

-- that fraction, where b is not 0 (`lowest_terms`)
abbrev pub reduced : ℕ → ℕ → Fraction
reduced a b = record { numerator = a / gcd a b; denominator = b / gcd a b }
