-- Powers of two. Assumes nothing.
use Rattle.std.specs.Prelude.{◌≡◌, Bool, false, ◌||◌, ℕ, zero, suc, ◌^◌, eqb}

-- a is a power of two; its exponent has no bound
pub record PowerOfTwo (a : ℕ) : Type 0 where
  pub exponent : ℕ
  pub power : a ≡ 2 ^ exponent

-- the test of it, for a number of w bits: a is one of 2 ^ (w - 1), .., 2, 1
unfoldable pub power_of_two : ℕ → ℕ → Bool
power_of_two zero a = false
power_of_two (suc k) a = eqb a (2 ^ k) || power_of_two k a
