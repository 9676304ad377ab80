-- The rounding helpers (document 01, module 1): what each gives at w bits, and what that means. Assumes nothing.
use Rattle.std.specs.Prelude.{◌≡◌, not, List, [], ◌∷◌, ◌⊎◌, ℕ, ◌≤◌, max, min}
use Rattle.util_defs.specs.Power.{PowerOfTwo, power_of_two}
use Rattle.util_defs.specs.Round.{down, padding}
use Rattle.util_defs.specs.Refusal.{Outcome, Cause, unless}

-- 1: an alignment is 0 or no power of two
abbrev pub bad_align : ℕ → ℕ → Cause
bad_align w a = record { number = 1; test = not (power_of_two w a); means = PowerOfTwo a → ⊥ }

abbrev pub align_causes : ℕ → ℕ → List Cause
align_causes w a = bad_align w a ∷ []

abbrev pub aligns_causes : ℕ → ℕ → ℕ → List Cause
aligns_causes w a b = bad_align w a ∷ bad_align w b ∷ []

-- `padding_needed_for`
unfoldable pub padding_for : ℕ → ℕ → ℕ → Outcome ℕ
padding_for w v a = unless (align_causes w a) (padding v a)

-- `round_down_to_next_multiple_of_alignment`
unfoldable pub round_down_for : ℕ → ℕ → ℕ → Outcome ℕ
round_down_for w v a = unless (align_causes w a) (down v a)

-- `max` and `min`
unfoldable pub max_for : ℕ → ℕ → ℕ → Outcome ℕ
max_for w a b = unless (aligns_causes w a b) (max a b)

unfoldable pub min_for : ℕ → ℕ → ℕ → Outcome ℕ
min_for w a b = unless (aligns_causes w a b) (min a b)

-- r is the larger of a and b; the smaller
pub record Larger (a b r : ℕ) : Type 0 where
  pub one : (r ≡ a) ⊎ (r ≡ b)
  pub left : a ≤ r
  pub right : b ≤ r

pub record Smaller (a b r : ℕ) : Type 0 where
  pub one : (r ≡ a) ⊎ (r ≡ b)
  pub left : r ≤ a
  pub right : r ≤ b
