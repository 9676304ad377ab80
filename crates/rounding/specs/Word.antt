-- The rounding word (document 01, module 2): A + p, where A is a power of two and p is below A. Assumes nothing.
use Rattle.std.specs.Prelude.{◌≡◌, cond, List, [], ◌∷◌, ℕ, zero, suc, ◌+◌, ◌-◌, ◌^◌, ◌≤◌, ◌<◌, eqb, leb}
use Rattle.util_defs.specs.Power.{PowerOfTwo}
use Rattle.util_defs.specs.Refusal.{Outcome, Cause, unless}
use Rattle.util_defs.specs.Helpers.{bad_align}

-- n is the rounding word of the alignment A and the phase p
pub record IsWord (n A p : ℕ) : Type 0 where
  pub power : PowerOfTwo A
  pub below : p < A
  pub sum : n ≡ A + p

-- the highest one bit of a number of w bits: the greatest of 2 ^ (w - 1), .., 2, 1 that is at most it; 0 where there is none
unfoldable pub highest_bit : ℕ → ℕ → ℕ
highest_bit zero n = 0
highest_bit (suc k) n = cond (leb (2 ^ k) n) (2 ^ k) (highest_bit k n)

-- the alignment and the phase of a word of w bits (`parts_of_lem`: these are its parts; `same_align`, `same_phase`: it has no
-- others)
abbrev pub align_of : ℕ → ℕ → ℕ
align_of w n = highest_bit w n

abbrev pub phase_of : ℕ → ℕ → ℕ
phase_of w n = n - highest_bit w n

-- 2: the rounding word is 0
abbrev pub word_zero : ℕ → Cause
word_zero n = record { number = 2; test = eqb n 0; means = n ≡ 0 }

-- 3: a phase is not below its alignment
abbrev pub phase_not_below : ℕ → ℕ → Cause
phase_not_below a p = record { number = 3; test = leb a p; means = a ≤ p }

abbrev pub new_causes : ℕ → ℕ → ℕ → List Cause
new_causes w a p = bad_align w a ∷ phase_not_below a p ∷ []

abbrev pub word_causes : ℕ → List Cause
word_causes n = word_zero n ∷ []

-- `new`: the word of an alignment and a phase
unfoldable pub new_for : ℕ → ℕ → ℕ → Outcome ℕ
new_for w a p = unless (new_causes w a p) (a + p)

-- `components`: the alignment and the phase of a word
pub record Components : Type 0 where
  pub align : ℕ
  pub phase : ℕ

unfoldable pub components_for : ℕ → ℕ → Outcome Components
components_for w n = unless (word_causes n) (record { align = align_of w n; phase = phase_of w n })

-- `align`: the alignment of a word
unfoldable pub align_for : ℕ → ℕ → Outcome ℕ
align_for w n = unless (word_causes n) (align_of w n)

-- what the parts of a word are; its alignment alone
abbrev pub PartsOf : ℕ → Components → Type 0
PartsOf n c = IsWord n c.align c.phase

pub record AlignOf (n a : ℕ) : Type 0 where
  pub phase : ℕ
  pub word : IsWord n a phase
