-- Trailing layouts and their sizes (document 01, "The layout and its meaning"), over unlimited whole numbers. Assumes nothing.
use Rattle.std.specs.Prelude.{ℕ, ◌+◌, ◌*◌, ◌≤◌}
use Rattle.util_defs.specs.Width.{M}
use Rattle.util_defs.specs.Round.{up, down}
use Rattle.rounding.specs.Word.{align_of, phase_of}

-- a trailing layout: its offset o, element size e, base b and rounding word
pub record Trailing : Type 0 where
  pub offset : ℕ
  pub elem : ℕ
  pub base : ℕ
  pub word : ℕ

-- the alignment A and the phase p of its rounding word, at w bits
abbrev pub A : ℕ → Trailing → ℕ
A w t = align_of w t.word

abbrev pub p : ℕ → Trailing → ℕ
p w t = phase_of w t.word

-- the size with x trailing bytes: b + up(p + x, A). The offset does not enter it
unfoldable pub size_with : (b A p x : ℕ) → ℕ
size_with b A p x = b + up (p + x) A

-- the size at count n: b + up(p + n·e, A)
abbrev pub size_at : ℕ → Trailing → ℕ → ℕ
size_at w t n = size_with t.base (A w t) (p w t) (n * t.elem)

-- a size exists if it is at most M
abbrev pub HasSize : ℕ → Trailing → ℕ → Type 0
HasSize w t n = size_at w t n ≤ M w

-- the size offset: down(b, A) + p
abbrev pub size_offset : ℕ → Trailing → ℕ
size_offset w t = down t.base (A w t) + p w t
