-- Scalars by code (document 01, module 7; the Reference's rules layout.primitive.size and layout.primitive.align). Assumes
-- nothing.
use Rattle.std.specs.Prelude.{true, List, [], ◌∷◌, ℕ, ◌<◌, ltb, get_or}
use Rattle.util_defs.specs.Refusal.{Outcome, Cause, unless}
use Rattle.layout_defs.specs.Layout.{Layout}
use Rattle.make.specs.Make.{type_layout}

-- a target: the sizes and the alignments of the scalars 0 u8, 1 u16, 2 u32, 3 u64, 4 f32, 5 f64, 6 char, 7 bool, 8 usize
pub record Target : Type 0 where
  pub sizes : List ℕ
  pub aligns : List ℕ

-- the 64-bit target: alignment equals size
abbrev pub target64 : Target
target64 = record { sizes = 1 ∷ 2 ∷ 4 ∷ 8 ∷ 4 ∷ 8 ∷ 4 ∷ 1 ∷ 8 ∷ []; aligns = 1 ∷ 2 ∷ 4 ∷ 8 ∷ 4 ∷ 8 ∷ 4 ∷ 1 ∷ 8 ∷ [] }

abbrev pub greatest_code : ℕ
greatest_code = 8

-- 23: a scalar code is above the greatest
abbrev pub code_above : ℕ → Cause
code_above code = record { number = 23; test = ltb greatest_code code; means = greatest_code < code }

abbrev pub scalar_causes : ℕ → List Cause
scalar_causes code = code_above code ∷ []

-- a scalar's layout: its size and alignment, the mark set
abbrev pub scalar_layout : Target → ℕ → Layout
scalar_layout target code = type_layout true (get_or target.sizes code 0) (get_or target.aligns code 0)

unfoldable pub scalar_for : Target → ℕ → Outcome Layout
scalar_for target code = unless (scalar_causes code) (scalar_layout target code)
