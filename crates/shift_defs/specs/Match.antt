-- When two trailing layouts have the same sizes, the counts of one being shifted counts of the other (document 01, module 6).
-- Assumes nothing.
use Rattle.std.specs.Prelude.{◌≡◌, Bool, true, ◌&&◌, ℕ, ◌+◌, ◌*◌, ◌^◌, ◌≤◌, ◌<◌, leb}
use Rattle.util_defs.specs.Width.{M}
use Rattle.util_defs.specs.Refusal.{Outcome, unless, YesMeans}
use Rattle.trailing_defs.specs.Size.{Trailing, size_at, HasSize, size_offset}
use Rattle.trailing_defs.specs.Sequence.{EqualSizes}
use Rattle.trailing_defs.specs.Calls.{advanced, same_causes}

-- a comparison of two sequences of sizes, as `same_sequence` is one
abbrev pub Comparison : Type 0
Comparison = Trailing → Trailing → Bool

-- all that is assumed of a comparison: of layouts whose words w bits hold, a yes means equal sizes at every count
abbrev pub Sound : ℕ → Comparison → Type 0
Sound w same =
    (s t : Trailing) → 0 < s.word → s.word < 2 ^ w → 0 < t.word → t.word < 2 ^ w → same s t ≡ true → EqualSizes w s t

-- the target advanced by d of its elements and given the source's element size
abbrev pub shifted : ℕ → Trailing → Trailing → ℕ → Trailing
shifted w s t d = advanced w t (d * t.elem) s.elem

-- the two match at d: the source has a size at 0, the advance is not refused, and the comparison says yes
pub record Matches (w : ℕ) (same : Comparison) (s t : Trailing) (d : ℕ) : Type 0 where
  pub start : HasSize w s 0
  pub advance : size_offset w t + d * t.elem ≤ M w
  pub equal : same s (shifted w s t d) ≡ true

-- the part of it that is left once the target is advanced to u
abbrev pub same_from : ℕ → Comparison → Trailing → Trailing → Bool
same_from w same s u = leb (size_at w s 0) (M w) && same s u

unfoldable pub match_test : ℕ → Comparison → Trailing → Trailing → ℕ → Bool
match_test w same s t d = leb (size_at w s 0) (M w) && (leb (size_offset w t + d * t.elem) (M w) && same s (shifted w s t d))

-- `size_sequences_match`: the first layout's 2, then the second's
unfoldable pub match_for : ℕ → Comparison → Trailing → Trailing → ℕ → Outcome Bool
match_for w same s t d = unless (same_causes s t) (match_test w same s t d)

-- a yes means that the source's sizes are the target's, from d on, with the source's elements
abbrev pub FoundMatch : ℕ → Comparison → Trailing → Trailing → ℕ → Bool → Type 0
FoundMatch w same s t d = YesMeans (Matches w same s t d) (EqualSizes w s (shifted w s t d))
