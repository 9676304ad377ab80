-- Layouts (document 01, "The layout and its meaning"). Assumes nothing.
use Rattle.std.specs.Prelude.{◌≡◌, Bool, false, List, [], ◌∷◌, ℕ, ◌^◌, ◌<◌}
use Rattle.util_defs.specs.Refusal.{Outcome, Cause, unless}
use Rattle.util_defs.specs.Helpers.{bad_align}
use Rattle.rounding.specs.Word.{word_zero}
use Rattle.trailing_defs.specs.Size.{Trailing, size_at}

-- a layout is fixed, with a size, or trailing
pub data Info : Type 0 where
  fixed : ℕ → Info
  trailing : Trailing → Info

-- a layout: its alignment, what its size is, the mark: no padding is known between its members, and whether an alignment modifier
-- (the Reference's `align`) was asked for, of it or of a member at any depth
pub record Layout : Type 0 where
  pub align : ℕ
  pub info : Info
  pub mark : Bool
  pub modifier : Bool

-- both marks
abbrev pub Marks : Type 0
Marks = Bool × Bool

abbrev pub marks : Layout → Marks
marks l = (l.mark, l.modifier)

-- a fixed layout has one count, 0; every number is a count of a trailing one, though its size there may pass M
abbrev pub IsCount : Info → ℕ → Type 0
IsCount (fixed s) n = n ≡ 0
IsCount (trailing t) n = Unit {0}

abbrev pub size_in : ℕ → Info → ℕ → ℕ
size_in w (fixed s) n = s
size_in w (trailing t) n = size_at w t n

-- 2: the rounding word is 0; a fixed layout has none
abbrev pub no_word : Info → Cause
no_word (fixed s) = record { number = 2; test = false; means = ⊥ }
no_word (trailing t) = word_zero t.word

-- what refuses a layout
abbrev pub layout_causes : ℕ → Layout → List Cause
layout_causes w l = bad_align w l.align ∷ no_word l.info ∷ []

-- the alignment and the rounding word of a layout are numbers that w bits hold
abbrev pub WordFits : ℕ → Info → Type 0
WordFits w (fixed s) = Unit {0}
WordFits w (trailing t) = t.word < 2 ^ w

pub record FitsWidth (w : ℕ) (l : Layout) : Type 0 where
  pub align : l.align < 2 ^ w
  pub word : WordFits w l.info

-- `check`: whether a layout is refused
unfoldable pub check_for : ℕ → Layout → Outcome (Unit {0})
check_for w l = unless (layout_causes w l) tt
