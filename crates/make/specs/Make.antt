-- Layouts made of numbers (document 01, module 4; the Reference's rules layout.properties.align and layout.properties.size).
-- Assumes nothing.
use Rattle.std.specs.Prelude.{◌≡◌, Bool, true, false, cond, not, List, [], ◌∷◌, ℕ, ◌%◌, eqb}
use Rattle.util_defs.specs.Refusal.{Outcome, Cause, unless}
use Rattle.util_defs.specs.Helpers.{bad_align, align_causes}
use Rattle.layout_defs.specs.Layout.{Layout, fixed, trailing}

-- an alignment parameter: 0 means that none was asked for, and the least is taken
abbrev pub asked : ℕ → ℕ
asked a = cond (eqb a 0) 1 a

-- the empty layout; that an alignment was asked for is an alignment modifier, 1 too
abbrev pub empty_layout : ℕ → Layout
empty_layout a = record { align = asked a; info = fixed 0; mark = true; modifier = not (eqb a 0) }

-- `new_zst`
unfoldable pub new_zst_for : ℕ → ℕ → Outcome Layout
new_zst_for w a = unless (align_causes w (asked a)) (empty_layout a)

-- 4: a type's size is not a multiple of its alignment
abbrev pub size_not_multiple : ℕ → ℕ → Cause
size_not_multiple size a = record { number = 4; test = not (eqb (size % a) 0); means = size % a ≡ 0 → ⊥ }

abbrev pub type_causes : ℕ → ℕ → ℕ → List Cause
type_causes w size a = bad_align w a ∷ size_not_multiple size a ∷ []

-- `for_type` and `for_unpadded_type`
abbrev pub type_layout : Bool → ℕ → ℕ → Layout
type_layout mark size a = record { align = a; info = fixed size; mark = mark; modifier = false }

unfoldable pub type_for : ℕ → Bool → ℕ → ℕ → Outcome Layout
type_for w mark size a = unless (type_causes w size a) (type_layout mark size a)

-- `for_slice`: o = b = 0, e the size, phase 0
abbrev pub slice_layout : ℕ → ℕ → Layout
slice_layout size a =
    record { align = a; info = trailing (record { offset = 0; elem = size; base = 0; word = a }); mark = true; modifier = false }

unfoldable pub slice_for : ℕ → ℕ → ℕ → Outcome Layout
slice_for w size a = unless (type_causes w size a) (slice_layout size a)
