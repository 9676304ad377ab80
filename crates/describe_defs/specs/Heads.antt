-- The head of a part: its tag, and what stands between that and the parts in it; of a struct also the place of its first member.
-- A part is read by its head (`part_by_head`). Assumes nothing.
use Rattle.std.specs.Prelude.{◌≡◌, List, ℕ, zero, suc, ◌+◌, ◌≤◌, ◌<◌}
use Rattle.util_defs.specs.Refusal.{Outcome}
use Rattle.util_defs.specs.Placed.{Placed, reached, stopped, at_place, go_on}
use Rattle.layout_defs.specs.Layout.{Layout}
use Rattle.scalar.specs.Scalar.{Target, greatest_code, scalar_layout}
use Rattle.describe_defs.specs.Elements.{array_for, slice_of_for}
use Rattle.describe_defs.specs.Describe.{Part, Reader, Form, array, struct, slice, Tag, code, opens, unknown, tag_of}
use Rattle.describe_defs.specs.Describe.{byte_at, count_length, count_at, power_at, Counted, count_bytes, struct_body}
use Rattle.describe_defs.specs.Grammar.{IsByte, IsCount, Header}

pub data Head : Type 0 where
  code_head : (scalar : ℕ) → Head
  array_head : (count : ℕ) → Head
  struct_head : (align packing count first : ℕ) → Head
  slice_head : Head

-- the head of an array, a struct or a slice whose tag is at t
abbrev pub packed_head : List ℕ → ℕ → Counted → ℕ → ℕ → Placed Head
packed_head s t c align packing =
    go_on (count_at (count_bytes c) s (t + 3)) (λ n. reached (struct_head align packing n (t + 3 + count_bytes c)))

abbrev pub aligned_head : ℕ → List ℕ → ℕ → Counted → ℕ → Placed Head
aligned_head w s t c align = go_on (power_at w s (t + 2)) (packed_head s t c align)

abbrev pub form_head : ℕ → List ℕ → ℕ → Form → Placed Head
form_head w s t array = go_on (count_at count_length s (t + 1)) (λ n. reached (array_head n))
form_head w s t (struct c) = go_on (power_at w s (t + 1)) (aligned_head w s t c)
form_head w s t slice = reached slice_head

-- with so many parts more that may be open
abbrev pub opening : ℕ → ℕ → List ℕ → ℕ → Form → Placed Head
opening w zero s t f = stopped 35 t
opening w (suc d) s t f = form_head w s t f

abbrev pub tag_head : ℕ → ℕ → List ℕ → ℕ → ℕ → Tag → Placed Head
tag_head w d s t b code = reached (code_head b)
tag_head w d s t b (opens f) = opening w d s t f
tag_head w d s t b unknown = stopped 34 t

unfoldable pub head_at : ℕ → ℕ → List ℕ → ℕ → Placed Head
head_at w d s t = go_on (byte_at s t) (λ b. tag_head w d s t b (tag_of b))

-- a part of which some step makes another layout
abbrev pub made : ℕ → (Layout → Outcome Layout) → Part → Placed Part
made t f x = at_place t (f x.0) (λ l. reached (l, x.1))

-- a part behind its head, the parts in it read by the level below
abbrev pub body_at : ℕ → Target → Reader → ℕ → Head → Placed Part
body_at w target part t (code_head b) = reached (scalar_layout target b, t + 1)
body_at w target part t (array_head n) = go_on (part (t + 1 + count_length)) (made t (λ l. array_for w l n))
body_at w target part t (struct_head align packing n i) = struct_body w part t i align packing n
body_at w target part t slice_head = go_on (part (t + 1)) (made t (slice_of_for w))

-- a struct's header at t, behind which its members stand from i on
pub data HeaderTo (w : ℕ) (s : List ℕ) (t align packing n : ℕ) : ℕ → Type 0 where
  header : (c : Counted) → Header w s t c align packing n → HeaderTo w s t align packing n (t + 3 + count_bytes c)

-- what reading a head means: it stands at t, and a part may be opened there; a refusal, that none does
abbrev pub HeadIs : ℕ → ℕ → List ℕ → ℕ → Head → Type 0
HeadIs w d s t (code_head b) = IsByte s t b × (b ≤ greatest_code)
HeadIs w d s t (array_head n) = (0 < d) × (IsByte s t 16 × IsCount count_length s (t + 1) n)
HeadIs w d s t (struct_head align packing n i) = (0 < d) × HeaderTo w s t align packing n i
HeadIs w d s t slice_head = (0 < d) × IsByte s t 18

abbrev pub HeadMeans : ℕ → ℕ → List ℕ → ℕ → Placed Head → Type 0
HeadMeans w d s t (reached h) = HeadIs w d s t h
HeadMeans w d s t (stopped k i) = (h : Head) → HeadIs w d s t h → ⊥
