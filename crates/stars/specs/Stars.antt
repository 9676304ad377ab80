-- The starred cases of document 01, "Pages from the proof table", with the numbers that document 02 gives them, at any width: one
-- table of calls with their inputs and the numbers they give, and one claim of each row. "Worked cases past M" are left out.
-- Assumes nothing.
use Rattle.std.specs.Prelude.{◌≡◌, Bool, true, false, cond, List, [], ◌∷◌, ℕ, ◌-◌, ◌^◌, max, leb}
use Rattle.util_defs.specs.Width.{M}
use Rattle.util_defs.specs.Refusal.{Outcome, answered, refused}
use Rattle.util_defs.specs.Helpers.{padding_for}
use Rattle.rounding.specs.Word.{Components, components_for}
use Rattle.trailing_defs.specs.Size.{Trailing, size_at}
use Rattle.trailing_defs.specs.Sequence.{same_sequence}
use Rattle.trailing_defs.specs.Calls.{padding_for_elems, same_for}
use Rattle.trailing_defs.specs.Sized.{size_numbers, size_given}
use Rattle.layout_defs.specs.Layout.{Info, Layout, fixed, trailing}
use Rattle.cast_defs.specs.Cast.{Side, prefix, suffix, Grant, cast_for}
use Rattle.shift_defs.specs.Shift.{Shift, by, missing, by_offset, matched_shift}
use Rattle.convert_defs.specs.Convert.{Params, sized_to_sized, sized_to_unsized, unsized_to_unsized, compute_for, metadata_for}

-- the calls of the table
pub data Call : Type 0 where
  padding_needed_for : (len align : ℕ) → Call
  components : (word : ℕ) → Call
  size_for_elems : Trailing → ℕ → Call
  whole_size : Trailing → ℕ → Call
  padding_for_elems_of : Trailing → ℕ → Call
  cast : Layout → Side → (addr len : ℕ) → Call
  has_same_size_sequence : Trailing → Trailing → Call
  first_way : Trailing → Trailing → Call
  try_compute : Layout → Layout → Call
  cast_metadata : Params → ℕ → Call

-- what a call gives, as numbers: the refusal number, or 0 and what was answered
abbrev pub numbers : {T : Type 0} → (T → List ℕ) → Outcome T → List ℕ
numbers f (answered x) = 0 ∷ f x
numbers f (refused k) = k ∷ []

abbrev pub one : ℕ → List ℕ
one n = n ∷ []

abbrev pub yes_no : Bool → List ℕ
yes_no b = cond b 1 0 ∷ []

abbrev pub param_numbers : Params → List ℕ
param_numbers sized_to_sized = []
param_numbers (sized_to_unsized n) = n ∷ []
param_numbers (unsized_to_unsized d k) = d ∷ k ∷ []

abbrev pub shift_numbers : Shift → List ℕ
shift_numbers (by d) = d ∷ []
shift_numbers missing = []

abbrev pub eval : ℕ → Call → List ℕ
eval w (padding_needed_for v a) = numbers one (padding_for w v a)
eval w (components n) = numbers (λ (c : Components). c.align ∷ c.phase ∷ []) (components_for w n)
eval w (size_for_elems t n) = size_numbers (size_given w t n)
eval w (whole_size t n) = size_at w t n ∷ []
eval w (padding_for_elems_of t n) = numbers one (padding_for_elems w t n)
eval w (cast l side addr len) = numbers (λ (g : Grant). g.count ∷ g.split ∷ []) (cast_for w l side addr len)
eval w (has_same_size_sequence s t) = numbers yes_no (same_for w s t)
eval w (first_way s t) = shift_numbers (matched_shift w (same_sequence w) s t (by_offset w s t))
eval w (try_compute s t) = numbers param_numbers (compute_for w (same_sequence w) s t)
eval w (cast_metadata q n) = numbers one (metadata_for w q n)

-- a row: a call and its numbers, at every count n (most rows do not look at n)
pub record Row : Type 0 where
  pub call : ℕ → Call
  pub expected : ℕ → List ℕ

abbrev pub gives : Call → List ℕ → Row
gives c xs = record { call = λ _. c; expected = λ _. xs }

-- the greatest number that a call is handed over, but for its count
abbrev pub most_of : Trailing → ℕ
most_of t = max t.offset (max t.elem (max t.base t.word))

abbrev pub most_in : Layout → ℕ
most_in l = max l.align (of l.info)
  where
    of : Info → ℕ
    of (fixed s) = s
    of (trailing t) = most_of t

abbrev pub most : Call → ℕ
most (padding_needed_for v a) = max v a
most (components n) = n
most (size_for_elems t n) = most_of t
most (whole_size t n) = most_of t
most (padding_for_elems_of t n) = most_of t
most (cast l side addr len) = max (most_in l) (max addr len)
most (has_same_size_sequence s t) = max (most_of s) (most_of t)
most (first_way s t) = max (most_of s) (most_of t)
most (try_compute s t) = max (most_in s) (most_in t)
most (cast_metadata q n) = n

-- the rows of a table that are not past M
abbrev pub within : ℕ → List Row → List Row
within w [] = []
within w (r ∷ rs) = cond (leb (most (r.call 0)) (M w)) (r ∷ within w rs) (within w rs)

-- what the calls of a table give at n, and what it says of them
abbrev pub given : ℕ → ℕ → List Row → List (List ℕ)
given w n [] = []
given w n (r ∷ rs) = eval w (r.call n) ∷ given w n rs

abbrev pub said : ℕ → List Row → List (List ℕ)
said n [] = []
said n (r ∷ rs) = r.expected n ∷ said n rs

-- the one claim
abbrev pub Claim : ℕ → List Row → Type 0
Claim w rs = (n : ℕ) → given w n (within w rs) ≡ said n (within w rs)

-- layouts by their numbers
abbrev pub tail : (base word elem offset : ℕ) → Trailing
tail b n e o = record { offset = o; elem = e; base = b; word = n }

abbrev pub slice_of : ℕ → Trailing → Layout
slice_of a t = record { align = a; info = trailing t; mark = true; modifier = false }

abbrev pub fixed_of : ℕ → ℕ → Layout
fixed_of a s = record { align = a; info = fixed s; mark = true; modifier = false }

-- R is base 8, A 4, p 1, o 9, e 1, alignment 4
abbrev pub R : Trailing
R = tail 8 5 1 9

-- the source and the target of the second way
abbrev pub source2 : Trailing
source2 = tail 8 12 8 0

abbrev pub target2 : Trailing
target2 = tail 8 4 8 0

-- phases 1 and 2 of the alignment 8 with elements of 4 bytes: equal sizes at every count
abbrev pub alike : ℕ → Row
alike w = record { call = λ n. whole_size (tail 0 9 4 0) n; expected = λ n. eval w (whole_size (tail 0 10 4 0) n) }

-- the other rows, in which M is that of the width
abbrev pub computed : ℕ → List Row
computed w =
    gives (padding_needed_for 0 8) (0 ∷ 0 ∷ [])
    ∷ gives (padding_needed_for 1 8) (0 ∷ 7 ∷ [])
    ∷ gives (padding_needed_for (M w) 8) (0 ∷ 1 ∷ [])
    ∷ gives (components 1) (0 ∷ 1 ∷ 0 ∷ [])
    ∷ gives (components 12) (0 ∷ 8 ∷ 4 ∷ [])
    ∷ gives (components (M w)) (0 ∷ (2 ^ (w - 1)) ∷ (2 ^ (w - 1) - 1) ∷ [])
    ∷ gives (size_for_elems R 0) (0 ∷ 12 ∷ [])
    ∷ gives (size_for_elems R 3) (0 ∷ 12 ∷ [])
    ∷ gives (size_for_elems R 4) (0 ∷ 16 ∷ [])
    ∷ gives (padding_for_elems_of R 0) (0 ∷ 3 ∷ [])
    ∷ gives (padding_for_elems_of R 3) (0 ∷ 0 ∷ [])
    ∷ gives (padding_for_elems_of R 4) (0 ∷ 3 ∷ [])
    ∷ gives (cast (slice_of 4 R) prefix 0 11) (13 ∷ [])
    ∷ gives (cast (slice_of 4 R) prefix 0 12) (0 ∷ 3 ∷ 12 ∷ [])
    ∷ gives (cast (slice_of 4 R) prefix 0 15) (0 ∷ 3 ∷ 12 ∷ [])
    ∷ gives (cast (slice_of 4 R) prefix 0 16) (0 ∷ 7 ∷ 16 ∷ [])
    ∷ gives (cast (slice_of 4 R) suffix 1 15) (0 ∷ 3 ∷ 3 ∷ [])
    ∷ gives (cast (slice_of 4 R) prefix 2 3) (12 ∷ [])
    ∷ gives (cast (slice_of 4 (tail 8 5 9 9)) prefix 0 24) (0 ∷ 1 ∷ 20 ∷ [])
    ∷ gives (has_same_size_sequence (tail 0 9 4 0) (tail 0 10 4 0)) (0 ∷ 0 ∷ [])
    ∷ gives (try_compute (slice_of 4 (tail 8 4 4 0)) (slice_of 2 (tail 4 2 2 0))) (0 ∷ 2 ∷ 2 ∷ [])
    ∷ gives (cast_metadata (unsized_to_unsized 2 2) 3) (0 ∷ 8 ∷ [])
    ∷ gives (size_for_elems (tail 8 4 4 0) 3) (0 ∷ 20 ∷ [])
    ∷ gives (size_for_elems (tail 4 2 2 0) 8) (0 ∷ 20 ∷ [])
    ∷ gives (first_way source2 target2) []
    ∷ gives (try_compute (slice_of 8 source2) (slice_of 4 target2)) (0 ∷ 1 ∷ 1 ∷ [])
    ∷ gives (try_compute (fixed_of 4 16) (slice_of 4 target2)) (0 ∷ 1 ∷ [])
    ∷ gives (try_compute (fixed_of 4 15) (slice_of 4 target2)) (28 ∷ [])
    ∷ gives (try_compute (fixed_of 4 16) (slice_of 4 (tail 8 4 0 0))) (28 ∷ [])
    ∷ gives (try_compute (slice_of 8 source2) (slice_of 4 (tail 8 4 0 0))) (29 ∷ [])
    ∷ gives (size_for_elems (tail (2 ^ 64 - 8) 8 1 0) 0) (0 ∷ (2 ^ 64 - 8) ∷ [])
    ∷ gives (size_for_elems (tail (2 ^ 64 - 8) 8 1 0) 1) (15 ∷ 0 ∷ [])
    ∷ gives (size_for_elems (tail (2 ^ 64 - 8) 9 1 0) 0) (39 ∷ [])
    ∷ []

-- the table
abbrev pub stars : ℕ → List Row
stars w = alike w ∷ computed w
