-- Rounding to a multiple of A, over unlimited whole numbers. Assumes nothing.
use Rattle.std.specs.Prelude.{◌≡◌, ℕ, ◌+◌, ◌-◌, ◌*◌, ◌/◌, ◌%◌, ◌^◌, ◌≤◌}

-- document 01's down(v, A) and up(v, A): v rounded down, and up, to a multiple of A
unfoldable pub down : ℕ → ℕ → ℕ
down v A = v / A * A

unfoldable pub up : ℕ → ℕ → ℕ
up v A = (v + (A - 1)) / A * A

-- what takes v up to a multiple of A
unfoldable pub padding : ℕ → ℕ → ℕ
unfolding up
padding v A = up v A - v

-- m is the greatest multiple of A that is at most v
pub record GreatestMultiple (v A m : ℕ) : Type 0 where
  pub multiple : m % A ≡ 0
  pub within : m ≤ v
  pub greatest : (k : ℕ) → k % A ≡ 0 → k ≤ v → k ≤ m

-- q is the smallest number with v + q, modulo M + 1, a multiple of A
pub record LeastPadding (w v A q : ℕ) : Type 0 where
  pub multiple : (v + q) % 2 ^ w % A ≡ 0
  pub least : (k : ℕ) → (v + k) % 2 ^ w % A ≡ 0 → q ≤ k
