-- The shift of a conversion from trailing to trailing (document 01, module 6): the count that 0 elements become. Assumes nothing.
use Rattle.std.specs.Prelude.{◌≡◌, cond, ◌&&◌, List, ◌++◌, ◌⊎◌, ℕ, ◌+◌, ◌-◌, ◌*◌, ◌/◌, ◌%◌, ◌≤◌, ◌<◌, eqb, leb}
use Rattle.util_defs.specs.Width.{M}
use Rattle.util_defs.specs.Refusal.{Outcome, answered, refused, Cause, unless}
use Rattle.trailing_defs.specs.Size.{Trailing, size_at, HasSize, size_offset}
use Rattle.layout_defs.specs.Layout.{Info, fixed, trailing, Layout, layout_causes}
use Rattle.cast_defs.specs.Exact.{ExactCount, exact_for}
use Rattle.shift_defs.specs.Match.{Comparison, Matches, match_test}

-- a shift that there is, or not
pub data Shift : Type 0 where
  by : ℕ → Shift
  missing : Shift

-- the first way: the difference of the size offsets in whole target elements
abbrev pub by_offset : ℕ → Trailing → Trailing → Shift
by_offset w s t =
    cond (leb (size_offset w t) (size_offset w s) && eqb ((size_offset w s - size_offset w t) % t.elem) 0)
    (by ((size_offset w s - size_offset w t) / t.elem))
    missing

-- the second way: the target's exact count of the source's size at 0, where that exists
abbrev pub answered_by : Outcome ℕ → Shift
answered_by (answered d) = by d
answered_by (refused k) = missing

abbrev pub by_size : ℕ → Trailing → Layout → Shift
by_size w s l = cond (leb (size_at w s 0) (M w)) (answered_by (exact_for w l (size_at w s 0))) missing

-- a shift at which the two match
abbrev pub matched_shift : ℕ → Comparison → Trailing → Trailing → Shift → Shift
matched_shift w same s t (by d) = cond (match_test w same s t d) (by d) missing
matched_shift w same s t missing = missing

abbrev pub or_else : Shift → Shift → Shift
or_else (by d) other = by d
or_else missing other = other

-- the shift from s to the trailing part t of the layout l: by the first way, else by the second
unfoldable pub shift_of : ℕ → Comparison → Trailing → Layout → Trailing → Shift
shift_of w same s l t = or_else (matched_shift w same s t (by_offset w s t)) (matched_shift w same s t (by_size w s l))

-- the rules as statements: d is the shift of the first way; of the second, where the first gives none that matches
pub record FirstWay (w : ℕ) (same : Comparison) (s t : Trailing) (d : ℕ) : Type 0 where
  pub offsets : size_offset w s ≡ size_offset w t + d * t.elem
  pub match : Matches w same s t d

pub record SecondWay (w : ℕ) (same : Comparison) (s t : Trailing) (d : ℕ) : Type 0 where
  pub not_first : (c : ℕ) → FirstWay w same s t c → ⊥
  pub start : HasSize w s 0
  pub exact : ExactCount w t (size_at w s 0) d
  pub match : Matches w same s t d

abbrev pub IsShift : ℕ → Comparison → Trailing → Trailing → ℕ → Type 0
IsShift w same s t d = FirstWay w same s t d ⊎ SecondWay w same s t d

-- k is the multiple: target e nonzero, and source e k ≥ 1 of it
pub record IsMultiple (s t : Trailing) (k : ℕ) : Type 0 where
  pub target : 0 < t.elem
  pub least : 1 ≤ k
  pub multiple : s.elem ≡ k * t.elem

-- d is the shift between layouts of these kinds: none is one from or to a fixed layout, nor to one whose elements have no size
abbrev pub ShiftBetween : ℕ → Comparison → Info → Info → ℕ → Type 0
ShiftBetween w same (fixed a) j d = ⊥
ShiftBetween w same (trailing s) (fixed b) d = ⊥
ShiftBetween w same (trailing s) (trailing t) d = (0 < t.elem) × IsShift w same s t d

-- the same, computed: by the kinds of the source and of the target l
abbrev pub shift_between : ℕ → Comparison → Info → Layout → Info → Shift
shift_between w same (fixed a) l j = missing
shift_between w same (trailing s) l (fixed b) = missing
shift_between w same (trailing s) l (trailing t) = cond (eqb t.elem 0) missing (shift_of w same s l t)

-- what refuses a shift: the first layout's causes, then the second's
abbrev pub shift_causes : ℕ → Layout → Layout → List Cause
shift_causes w s t = layout_causes w s ++ layout_causes w t

-- `offset_delta_elems`
unfoldable pub shift_for : ℕ → Comparison → Layout → Layout → Outcome Shift
shift_for w same s t = unless (shift_causes w s t) (shift_between w same s.info t t.info)

-- what its answer means: d is the shift, or no number is
abbrev pub ShiftMeans : ℕ → Comparison → Info → Info → Shift → Type 0
ShiftMeans w same i j (by d) = ShiftBetween w same i j d
ShiftMeans w same i j missing = (d : ℕ) → ShiftBetween w same i j d → ⊥
