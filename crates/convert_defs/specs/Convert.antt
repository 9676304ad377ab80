-- Conversions (document 01, module 6): when a value of one layout may be read as another, and the count it then has. Assumes
-- nothing.
use Rattle.std.specs.Prelude.{◌≡◌, List, [], ◌∷◌, ◌++◌, ℕ, ◌+◌, ◌*◌, ◌/◌, ◌≤◌, ◌<◌, ltb}
use Rattle.util_defs.specs.Width.{M}
use Rattle.util_defs.specs.Refusal.{Outcome, answered, refused, Cause, unless, None}
use Rattle.trailing_defs.specs.Size.{Trailing}
use Rattle.layout_defs.specs.Layout.{Info, fixed, trailing, Layout, IsCount, size_in, layout_causes}
use Rattle.cast_defs.specs.Cast.{IsElemZero}
use Rattle.cast_defs.specs.Exact.{ExactCount, exact_for}
use Rattle.shift_defs.specs.Match.{Comparison}
use Rattle.shift_defs.specs.Shift.{Shift, by, missing, shift_of, IsShift, IsMultiple}
use Rattle.convert_defs.specs.Reasons.{kind_causes, conversion_causes}

-- what an accepted conversion is: fixed to fixed; fixed to trailing, with the exact count; trailing to trailing, with the
-- shift d and the multiple k
pub data Params : Type 0 where
  sized_to_sized : Params
  sized_to_unsized : (count : ℕ) → Params
  unsized_to_unsized : (d k : ℕ) → Params

-- what the kinds of source and target ask
pub data KindsConvert (w : ℕ) (same : Comparison) : Info → Info → Params → Type 0 where
  fixed_to_fixed : {a : ℕ} → KindsConvert w same (fixed a) (fixed a) sized_to_sized
  fixed_to_trailing : {a n : ℕ} {t : Trailing} → ExactCount w t a n
      → KindsConvert w same (fixed a) (trailing t) (sized_to_unsized n)
  trailing_to_trailing : {s t : Trailing} {d k : ℕ} → IsMultiple s t k → IsShift w same s t d
      → KindsConvert w same (trailing s) (trailing t) (unsized_to_unsized d k)

-- document 01's rules give the conversion q from s to t
pub record Converts (w : ℕ) (same : Comparison) (s t : Layout) (q : Params) : Type 0 where
  pub align : t.align ≤ s.align
  pub kinds : KindsConvert w same s.info t.info q

-- what refuses a conversion: the first layout's causes, then the second's, then document 02's list
abbrev pub compute_causes : ℕ → Comparison → Layout → Layout → List Cause
compute_causes w same s t = layout_causes w s ++ (layout_causes w t ++ conversion_causes w same s t)

-- the parameters of a conversion that is not refused; of one that is, nothing asks
abbrev pub with_count : Outcome ℕ → Params
with_count (answered n) = sized_to_unsized n
with_count (refused k) = sized_to_sized

abbrev pub with_shift : ℕ → Shift → Params
with_shift k (by d) = unsized_to_unsized d k
with_shift k missing = sized_to_sized

abbrev pub params_of : ℕ → Comparison → Info → Layout → Info → Params
params_of w same (fixed a) l (fixed b) = sized_to_sized
params_of w same (fixed a) l (trailing t) = with_count (exact_for w l a)
params_of w same (trailing s) l (fixed b) = sized_to_sized
params_of w same (trailing s) l (trailing t) = with_shift (s.elem / t.elem) (shift_of w same s l t)

-- what the kinds of the source i and of the target l, j, give
abbrev pub by_kinds : ℕ → Comparison → Info → Layout → Info → Outcome Params
by_kinds w same i l j = unless (kind_causes w same i l j) (params_of w same i l j)

-- `try_compute`
unfoldable pub compute_for : ℕ → Comparison → Layout → Layout → Outcome Params
compute_for w same s t = unless (compute_causes w same s t) (params_of w same s.info t t.info)

-- neither layout is refused, and document 01's rules give no conversion: a refusal from 25 to 32 comes exactly then
-- (`reason_none`, `none_reason`)
pub record NoConversion (w : ℕ) (same : Comparison) (s t : Layout) : Type 0 where
  pub source : None (layout_causes w s)
  pub target : None (layout_causes w t)
  pub none : (q : Params) → Converts w same s t q → ⊥

-- the converted count of n, over unlimited whole numbers; a fixed source ignores n
abbrev pub converted : Params → ℕ → ℕ
converted sized_to_sized n = 0
converted (sized_to_unsized m) n = m
converted (unsized_to_unsized d k) n = d + n * k

-- what demand 3 needs of a converted count: it is one of the target, whose elements have a size, and has the source's size
pub record Converted (w : ℕ) (i j : Info) (q : Params) (n : ℕ) : Type 0 where
  pub elem : IsElemZero j → ⊥
  pub fits : converted q n ≤ M w
  pub count : IsCount j (converted q n)
  pub size : size_in w j (converted q n) ≡ size_in w i n

-- 19: the converted count passes M
abbrev pub count_passes : ℕ → Params → ℕ → Cause
count_passes w q n = record { number = 19; test = ltb (M w) (converted q n); means = M w < converted q n }

abbrev pub metadata_causes : ℕ → Params → ℕ → List Cause
metadata_causes w q n = count_passes w q n ∷ []

-- `cast_metadata`
unfoldable pub metadata_for : ℕ → Params → ℕ → Outcome ℕ
metadata_for w q n = unless (metadata_causes w q n) (converted q n)
