-- The functions of trailing layouts (document 01, module 3): their refusals, what each gives at w bits, and what that means.
-- Assumes nothing.
use Rattle.std.specs.Prelude.{◌≡◌, Bool, List, [], ◌∷◌, ℕ, ◌+◌, ◌-◌, ◌*◌, ◌%◌, ◌^◌, ◌≤◌, ◌<◌, ltb}
use Rattle.util_defs.specs.Width.{M}
use Rattle.util_defs.specs.Round.{down, GreatestMultiple}
use Rattle.util_defs.specs.Refusal.{Outcome, Cause, unless, YesMeans}
use Rattle.rounding.specs.Word.{IsWord, word_zero, word_causes}
use Rattle.trailing_defs.specs.Size.{Trailing, A, p, size_with, size_at, HasSize, size_offset}
use Rattle.trailing_defs.specs.Count.{GreatestBytes, bytes_within}
use Rattle.trailing_defs.specs.Sequence.{EqualSizes, SameSequence, same_sequence}

-- `size_offset`: the greatest multiple of A that is at most b, and p more
unfoldable pub size_offset_for : ℕ → Trailing → Outcome ℕ
size_offset_for w t = unless (word_causes t.word) (size_offset w t)

pub record SizeOffset (t : Trailing) (r : ℕ) : Type 0 where
  pub align : ℕ
  pub phase : ℕ
  pub word : IsWord t.word align phase
  pub base : ℕ
  pub aligned : GreatestMultiple t.base align base
  pub sum : r ≡ base + phase

-- 16: no number of trailing bytes has a size of at most L; the room is below the size at 0
abbrev pub no_room : ℕ → Trailing → ℕ → Cause
no_room w t L = record {
  number = 16;
  test = ltb L (size_at w t 0);
  means = (x : ℕ) → size_with t.base (A w t) (p w t) x ≤ L → ⊥;
}

abbrev pub max_trailing_causes : ℕ → Trailing → ℕ → List Cause
max_trailing_causes w t L = word_zero t.word ∷ no_room w t L ∷ []

-- `max_trailing_bytes`
unfoldable pub max_trailing_for : ℕ → Trailing → ℕ → Outcome ℕ
max_trailing_for w t L = unless (max_trailing_causes w t L) (bytes_within t.base (A w t) (p w t) L)

abbrev pub GreatestIn : ℕ → Trailing → ℕ → ℕ → Type 0
GreatestIn w t L x = GreatestBytes t.base (A w t) (p w t) L x

-- `padding_for_elems`: the size at n less the end of the elements, o + n·e, modulo M + 1
abbrev pub padding_at : ℕ → Trailing → ℕ → ℕ
padding_at w t n = (size_at w t n + (2 ^ w - (t.offset + n * t.elem) % 2 ^ w)) % 2 ^ w

unfoldable pub padding_for_elems : ℕ → Trailing → ℕ → Outcome ℕ
padding_for_elems w t n = unless (word_causes t.word) (padding_at w t n)

-- r is the number up to M that makes the end of the elements the size, modulo M + 1
pub record PaddingAt (w : ℕ) (t : Trailing) (n r : ℕ) : Type 0 where
  pub within : r ≤ M w
  pub congruent : (r + t.offset + n * t.elem) % 2 ^ w ≡ size_at w t n % 2 ^ w

-- 39: not even count 0 has a size
abbrev pub no_size_at_zero : ℕ → Trailing → Cause
no_size_at_zero w t = record { number = 39; test = ltb (M w) (size_at w t 0); means = HasSize w t 0 → ⊥ }

-- 15: there is no size at this count
abbrev pub no_size : ℕ → Trailing → ℕ → Cause
no_size w t n = record { number = 15; test = ltb (M w) (size_at w t n); means = HasSize w t n → ⊥ }

abbrev pub size_causes : ℕ → Trailing → ℕ → List Cause
size_causes w t n = word_zero t.word ∷ no_size_at_zero w t ∷ no_size w t n ∷ []

-- the size at a count, or the number of the refusal
unfoldable pub size_for : ℕ → Trailing → ℕ → Outcome ℕ
size_for w t n = unless (size_causes w t n) (size_at w t n)

-- 17: an advance by y bytes passes M
abbrev pub advance_passes : ℕ → Trailing → ℕ → Cause
advance_passes w t y = record { number = 17; test = ltb (M w) (size_offset w t + y); means = M w < size_offset w t + y }

abbrev pub advance_causes : ℕ → Trailing → ℕ → List Cause
advance_causes w t y = word_zero t.word ∷ advance_passes w t y ∷ []

-- `advance` by y bytes, with the element size e: phase (p + y) mod A, base grown by down(p + y, A), A and o as they were
unfoldable pub advanced : ℕ → Trailing → ℕ → ℕ → Trailing
advanced w t y e = record {
  offset = t.offset;
  elem = e;
  base = t.base + down (p w t + y) (A w t);
  word = A w t + (p w t + y) % A w t;
}

unfoldable pub advance_for : ℕ → Trailing → ℕ → ℕ → Outcome Trailing
advance_for w t y e = unless (advance_causes w t y) (advanced w t y e)

-- the sizes of the advanced layout are those of the old one with y bytes more
pub record Advanced (w : ℕ) (t : Trailing) (y e : ℕ) (m : Trailing) : Type 0 where
  pub offset : m.offset ≡ t.offset
  pub elem : m.elem ≡ e
  pub base : m.base ≡ t.base + down (p w t + y) (A w t)
  pub word : IsWord m.word (A w t) ((p w t + y) % A w t)
  pub sizes : (n : ℕ) → size_at w m n ≡ size_with t.base (A w t) (p w t) (y + n * e)

-- `has_same_size_sequence`: the first layout's 2, then the second's
abbrev pub same_causes : Trailing → Trailing → List Cause
same_causes s t = word_zero s.word ∷ word_zero t.word ∷ []

unfoldable pub same_for : ℕ → Trailing → Trailing → Outcome Bool
same_for w s t = unless (same_causes s t) (same_sequence w s t)

-- the answer is yes exactly when the condition holds, and a yes means equal sizes at every count
abbrev pub FoundSame : ℕ → Trailing → Trailing → Bool → Type 0
FoundSame w s t = YesMeans (SameSequence w s t) (EqualSizes w s t)
