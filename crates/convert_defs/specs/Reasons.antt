-- Why two records will not convert (document 02, request 2): eight reasons in the order tested. Assumes nothing.
use Rattle.std.specs.Prelude.{◌≡◌, Bool, true, false, not, List, [], ◌∷◌, ℕ, ◌*◌, ◌%◌, ◌<◌, eqb, ltb}
use Rattle.util_defs.specs.Refusal.{Outcome, answered, refused, Cause}
use Rattle.layout_defs.specs.Layout.{Info, fixed, trailing, Layout}
use Rattle.cast_defs.specs.Exact.{ExactCount, exact_for}
use Rattle.shift_defs.specs.Match.{Comparison}
use Rattle.shift_defs.specs.Shift.{Shift, by, missing, shift_of, IsShift}

-- a reason why there is no conversion: the test of it, and the statement that the test decides
pub record Reason : Type 1 where
  pub test : Bool
  pub means : Type 0

-- a reason that there cannot be between layouts of these kinds
abbrev pub never : Reason
never = record { test = false; means = ⊥ }

-- the source alignment is lower
abbrev pub source_align_lower : Layout → Layout → Reason
source_align_lower s t = record { test = ltb s.align t.align; means = s.align < t.align }

-- two fixed sizes differ
abbrev pub fixed_sizes_differ : Info → Info → Reason
fixed_sizes_differ (fixed a) (fixed b) = record { test = not (eqb a b); means = a ≡ b → ⊥ }
fixed_sizes_differ (fixed a) (trailing t) = never
fixed_sizes_differ (trailing s) j = never

-- trailing goes to fixed
abbrev pub trailing_to_fixed : Info → Info → Reason
trailing_to_fixed (trailing s) (fixed b) = record { test = true; means = Unit {0} }
trailing_to_fixed (trailing s) (trailing t) = never
trailing_to_fixed (fixed a) j = never

-- a fixed source has no exact count; a target whose elements have no size gives none
abbrev pub is_refused : {T : Type 0} → Outcome T → Bool
is_refused (answered x) = false
is_refused (refused k) = true

abbrev pub no_exact_count : ℕ → Info → Layout → Info → Reason
no_exact_count w (fixed a) l (trailing t) =
    record { test = is_refused (exact_for w l a); means = (n : ℕ) → ExactCount w t a n → ⊥ }
no_exact_count w (fixed a) l (fixed b) = never
no_exact_count w (trailing s) l j = never

-- a trailing target has e 0, the source being trailing
abbrev pub target_elem_zero : Info → Info → Reason
target_elem_zero (trailing s) (trailing t) = record { test = eqb t.elem 0; means = t.elem ≡ 0 }
target_elem_zero (trailing s) (fixed b) = never
target_elem_zero (fixed a) j = never

-- the source element is the smaller
abbrev pub source_elem_smaller : Info → Info → Reason
source_elem_smaller (trailing s) (trailing t) = record { test = ltb s.elem t.elem; means = s.elem < t.elem }
source_elem_smaller (trailing s) (fixed b) = never
source_elem_smaller (fixed a) j = never

-- it is no whole multiple
abbrev pub no_whole_multiple : Info → Info → Reason
no_whole_multiple (trailing s) (trailing t) =
    record { test = not (eqb (s.elem % t.elem) 0); means = (k : ℕ) → s.elem ≡ k * t.elem → ⊥ }
no_whole_multiple (trailing s) (fixed b) = never
no_whole_multiple (fixed a) j = never

-- no shift lines the sizes up: neither of document 01's two
abbrev pub is_missing : Shift → Bool
is_missing (by d) = false
is_missing missing = true

abbrev pub no_shift : ℕ → Comparison → Info → Layout → Info → Reason
no_shift w same (trailing s) l (trailing t) =
    record { test = is_missing (shift_of w same s l t); means = (d : ℕ) → IsShift w same s t d → ⊥ }
no_shift w same (trailing s) l (fixed b) = never
no_shift w same (fixed a) l j = never

-- a reason with the number of its refusal
abbrev pub because : ℕ → Reason → Cause
because k r = record { number = k; test = r.test; means = r.means }

-- document 02's list, in the order tested: 25, then what the kinds of the source i and of the target l, j, ask
abbrev pub kind_causes : ℕ → Comparison → Info → Layout → Info → List Cause
kind_causes w same i l j =
    because 26 (fixed_sizes_differ i j)
    ∷ because 27 (trailing_to_fixed i j)
    ∷ because 28 (no_exact_count w i l j)
    ∷ because 29 (target_elem_zero i j)
    ∷ because 30 (source_elem_smaller i j)
    ∷ because 31 (no_whole_multiple i j)
    ∷ because 32 (no_shift w same i l j)
    ∷ []

abbrev pub conversion_causes : ℕ → Comparison → Layout → Layout → List Cause
conversion_causes w same s t = because 25 (source_align_lower s t) ∷ kind_causes w same s.info t t.info

-- the first and the last number of the list
abbrev pub first_reason : ℕ
first_reason = 25

abbrev pub last_reason : ℕ
last_reason = 32
