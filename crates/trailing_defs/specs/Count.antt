-- The greatest number of trailing bytes, and the greatest count, within a limit L. Assumes nothing.
use Rattle.std.specs.Prelude.{ℕ, ◌-◌, ◌*◌, ◌/◌, ◌≤◌}
use Rattle.util_defs.specs.Round.{down}
use Rattle.trailing_defs.specs.Size.{Trailing, A, p, size_with, size_at}

-- x is the greatest number of trailing bytes whose size is at most L
pub record GreatestBytes (b A p L x : ℕ) : Type 0 where
  pub fits : size_with b A p x ≤ L
  pub greatest : (y : ℕ) → size_with b A p y ≤ L → y ≤ x

-- that number, where there is one (`greatest_bytes`)
unfoldable pub bytes_within : (b A p L : ℕ) → ℕ
bytes_within b A p L = down (L - b) A - p

-- n is the greatest count whose size is at most L
pub record GreatestCount (w : ℕ) (t : Trailing) (L n : ℕ) : Type 0 where
  pub fits : size_at w t n ≤ L
  pub greatest : (m : ℕ) → size_at w t m ≤ L → m ≤ n

-- that count, where there is one and e is not 0 (`greatest_count`)
unfoldable pub count_within : ℕ → Trailing → ℕ → ℕ
count_within w t L = bytes_within t.base (A w t) (p w t) L / t.elem
