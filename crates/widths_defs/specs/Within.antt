-- What a call gives at fewer bits, whose greatest number is m, by what it gives at more. Assumes nothing.
use Rattle.std.specs.Prelude.{Bool, true, false, cond, ◌&&◌, ℕ, ◌/◌, leb}
use Rattle.util_defs.specs.Refusal.{Outcome, answered, refused}
use Rattle.trailing_defs.specs.Size.{Trailing}
use Rattle.trailing_defs.specs.Sized.{SizeOutcome, sized, none_above, refused_by, size_given}
use Rattle.full_defs.specs.Form.{Form}
use Rattle.widths_defs.specs.Low.{mapped}

-- an answer that the test does not accept is refused by k
abbrev pub limited : {T : Type 0} → ℕ → (T → Bool) → Outcome T → Outcome T
limited k test (answered x) = cond (test x) (answered x) (refused k)
limited k test (refused j) = refused j

-- `size_for_elems`, where the size passes m: with 15 comes the greatest count, which is the answer of `max_trailing_bytes` in a
-- room of m bytes over the element size e; 39 where that is refused
abbrev pub none_within : ℕ → Outcome ℕ → SizeOutcome
none_within e (answered bytes) = none_above (bytes / e)
none_within e (refused k) = refused_by 39

-- `size_for_elems`: no size where it passes m
abbrev pub size_within : ℕ → ℕ → Outcome ℕ → SizeOutcome → SizeOutcome
size_within m e room (sized s) = cond (leb s m) (sized s) (none_within e room)
size_within m e room (none_above g) = none_within e room
size_within m e room (refused_by k) = refused_by k

-- `advance`: 17 where the new base passes m
abbrev pub advance_within : ℕ → Outcome Trailing → Outcome Trailing
advance_within m o = limited 17 (λ t. leb t.base m) o

-- whether v bits hold a size at 0
abbrev pub is_sized : SizeOutcome → Bool
is_sized (sized s) = true
is_sized (none_above g) = false
is_sized (refused_by k) = false

abbrev pub has_start : ℕ → Trailing → Bool
has_start v t = is_sized (size_given v t 0)

-- `has_same_size_sequence`: yes only where the first layout has a size at 0
abbrev pub same_within : Bool → Outcome Bool → Outcome Bool
same_within start o = mapped (λ b. start && b) o

-- `normal_form`: 46 where the base passes m
abbrev pub form_within : ℕ → Outcome Form → Outcome Form
form_within m o = limited 46 (λ f. leb f.base m) o
