-- Numbers of w bits. Assumes nothing.
use Rattle.std.specs.Prelude.{cond, ℕ, ◌-◌, ◌^◌, leb}

-- document 01's M: the greatest number of w bits
abbrev pub M : ℕ → ℕ
M w = 2 ^ w - 1

-- a number that w bits hold, or the word that they do not
pub data Checked : Type 0 where
  fitting : ℕ → Checked
  passes : Checked

abbrev pub checked : ℕ → ℕ → Checked
checked w x = cond (leb x (M w)) (fitting x) passes
