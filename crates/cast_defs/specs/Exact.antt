-- The count of an exact size (document 01, module 5). Assumes nothing.
use Rattle.std.specs.Prelude.{◌≡◌, Bool, false, not, ◌&&◌, List, [], ◌∷◌, ◌++◌, ℕ, ◌≤◌, ◌<◌, eqb}
use Rattle.util_defs.specs.Refusal.{Outcome, answered, refused, Cause, unless}
use Rattle.trailing_defs.specs.Size.{Trailing, size_at, HasSize}
use Rattle.layout_defs.specs.Layout.{Info, fixed, trailing, Layout, layout_causes}
use Rattle.layout_defs.specs.Extend.{is_trailing}
use Rattle.cast_defs.specs.Cast.{prefix, Grant, cast_for, count_in}

-- whether a cast is granted with this split
abbrev pub split_is : ℕ → Outcome Grant → Bool
split_is s (answered g) = eqb g.split s
split_is s (refused k) = false

-- whether there is an exact count of s: the layout is trailing, and a prefix cast at address 0 over s has the split s
abbrev pub has_exact : ℕ → Layout → ℕ → Bool
has_exact w l s = is_trailing l.info && split_is s (cast_for w l prefix 0 s)

-- n is the exact count of s: the greatest count of that size, which exists, of a layout whose elements have a size
pub record ExactCount (w : ℕ) (t : Trailing) (s n : ℕ) : Type 0 where
  pub elem : 0 < t.elem
  pub exists : HasSize w t n
  pub size : size_at w t n ≡ s
  pub greatest : (m : ℕ) → size_at w t m ≡ s → m ≤ n

abbrev pub ExactIn : ℕ → Info → ℕ → ℕ → Type 0
ExactIn w (fixed z) s n = ⊥
ExactIn w (trailing t) s n = ExactCount w t s n

-- 14: there is no exact count
abbrev pub no_exact : ℕ → Layout → ℕ → Cause
no_exact w l s = record { number = 14; test = not (has_exact w l s); means = (n : ℕ) → ExactIn w l.info s n → ⊥ }

abbrev pub exact_causes : ℕ → Layout → ℕ → List Cause
exact_causes w l s = layout_causes w l ++ (no_exact w l s ∷ [])

-- `metadata_for_exact_size`: the count of that cast
unfoldable pub exact_for : ℕ → Layout → ℕ → Outcome ℕ
exact_for w l s = unless (exact_causes w l s) (count_in w l.info s)
