-- Nested type descriptions (document 02, requests 4, 7 and 8): what reading one gives, the first refusal that is met with its
-- place, in the order of reading. Assumes nothing.
use Rattle.std.specs.Prelude.{cond, List, ℕ, zero, suc, ◌+◌, ◌-◌, ◌^◌, max, eqb, ltb, leb, length, take, drop, get_or}
use Rattle.util_defs.specs.Width.{M}
use Rattle.util_defs.specs.Refusal.{answered}
use Rattle.util_defs.specs.Placed.{Placed, reached, stopped, at_place, go_on}
use Rattle.layout_defs.specs.Layout.{Layout}
use Rattle.padding_defs.specs.Pad.{pad_for}
use Rattle.scalar.specs.Scalar.{Target, greatest_code, scalar_layout}
use Rattle.words.specs.Bytes.{value_of}
use Rattle.compose_defs.specs.Compose.{ported, begin_for, member_step}
use Rattle.describe_defs.specs.Elements.{array_for, slice_of_for}

-- a part that is read: its layout, and the place behind its last byte
abbrev pub Part : Type 0
Part = Layout × ℕ

-- what reads a part at a place
abbrev pub Reader : Type 0
Reader = ℕ → Placed Part

-- a struct's member count has one byte behind the tag 17, two behind 19
pub data Counted : Type 0 where
  by_one : Counted
  by_two : Counted

abbrev pub struct_tag : Counted → ℕ
struct_tag by_one = 17
struct_tag by_two = 19

abbrev pub count_bytes : Counted → ℕ
count_bytes by_one = 1
count_bytes by_two = 2

-- the forms that open a part, and what a tag says
pub data Form : Type 0 where
  array : Form
  struct : Counted → Form
  slice : Form

pub data Tag : Type 0 where
  code : Tag
  opens : Form → Tag
  unknown : Tag

-- a scalar code; 16 an array, 17 and 19 a struct, 18 a slice
abbrev pub tag_of : ℕ → Tag
tag_of b =
    cond (leb b greatest_code) code
    (cond (eqb b 16) (opens array)
    (cond (eqb b 17) (opens (struct by_one))
    (cond (eqb b 18) (opens slice)
    (cond (eqb b 19) (opens (struct by_two))
    unknown))))

-- the byte at a place, 33 where there is none
abbrev pub byte_at : List ℕ → ℕ → Placed ℕ
byte_at s i = cond (ltb i (length s)) (reached (get_or s i 0)) (stopped 33 i)

-- the bytes of an array's count
abbrev pub count_length : ℕ
count_length = 4

-- the little-endian count of k bytes at a place, 33 at its first byte that is missing
abbrev pub count_at : ℕ → List ℕ → ℕ → Placed ℕ
count_at k s i = cond (leb (i + k) (length s)) (reached (value_of (take k (drop i s)))) (stopped 33 (max i (length s)))

-- an alignment or a packing as one byte: 0 none, else 1 + the power; 34 for a power above the greatest, 43 where the number does
-- not fit the width
abbrev pub greatest_power : ℕ
greatest_power = 63

abbrev pub power_of : ℕ → ℕ
power_of b = cond (eqb b 0) 0 (2 ^ (b - 1))

abbrev pub power_in : ℕ → ℕ → ℕ → Placed ℕ
power_in w i b =
    cond (leb b (1 + greatest_power)) (cond (leb (power_of b) (M w)) (reached (power_of b)) (stopped 43 i)) (stopped 34 i)

abbrev pub power_at : ℕ → List ℕ → ℕ → Placed ℕ
power_at w s i = go_on (byte_at s i) (power_in w i)

-- n members at the end of a layout: each read whole, then added by the step of a composition, whose refusal stands at the tag t
unfoldable pub add_read : ℕ → Reader → ℕ → ℕ → ℕ → Layout → ℕ → Placed Part
add_read w part packing t zero l i = reached (l, i)
add_read w part packing t (suc n) l i =
    go_on (part i) (λ m. at_place t (member_step w ported packing l (answered m.0)) (λ l'. add_read w part packing t n l' m.1))

-- a struct, whose tag is at t: its header, byte by byte, its members, from i on, from the empty layout on, closing padding
abbrev pub closed : ℕ → ℕ → Part → Placed Part
closed w t x = at_place t (pad_for w x.0) (λ l. reached (l, x.1))

abbrev pub struct_body : ℕ → Reader → ℕ → ℕ → ℕ → ℕ → ℕ → Placed Part
struct_body w part t i align packing n =
    at_place t (begin_for w ported align packing) (λ l. go_on (add_read w part packing t n l i) (closed w t))

unfoldable pub struct_at : ℕ → Reader → List ℕ → ℕ → Counted → Placed Part
struct_at w part s t c =
    go_on (power_at w s (t + 1)) (λ align.
    go_on (power_at w s (t + 2)) (λ packing.
    go_on (count_at (count_bytes c) s (t + 3)) (λ n.
    struct_body w part t (t + 3 + count_bytes c) align packing n)))

-- an array and a slice: the element whole, and then it is judged
unfoldable pub array_at : ℕ → Reader → List ℕ → ℕ → Placed Part
array_at w part s t =
    go_on (count_at count_length s (t + 1)) (λ n.
    go_on (part (t + 1 + count_length)) (λ x. at_place t (array_for w x.0 n) (λ l. reached (l, x.1))))

unfoldable pub slice_at : ℕ → Reader → ℕ → Placed Part
slice_at w part t = go_on (part (t + 1)) (λ x. at_place t (slice_of_for w x.0) (λ l. reached (l, x.1)))

-- a part that a form opens, the parts in it read by the level below
abbrev pub form_at : ℕ → Reader → List ℕ → ℕ → Form → Placed Part
form_at w part s t array = array_at w part s t
form_at w part s t (struct c) = struct_at w part s t c
form_at w part s t slice = slice_at w part t

-- a part by what its tag says: 34 for one that is unknown
abbrev pub tagged : Target → ℕ → ℕ → (Form → Placed Part) → Tag → Placed Part
tagged target t b inside code = reached (scalar_layout target b, t + 1)
tagged target t b inside (opens f) = inside f
tagged target t b inside unknown = stopped 34 t

abbrev pub tagged_at : Target → List ℕ → ℕ → (Form → Placed Part) → Placed Part
tagged_at target s t inside = go_on (byte_at s t) (λ b. tagged target t b inside (tag_of b))

-- a part with so many more that may be open: 35 at the tag that opens one too many, before any further byte
unfoldable pub part_for : ℕ → Target → ℕ → List ℕ → Reader
part_for w target zero s t = tagged_at target s t (λ f. stopped 35 t)
part_for w target (suc d) s t = tagged_at target s t (form_at w (part_for w target d s) s t)

-- as many parts may be open
abbrev pub greatest_depth : ℕ
greatest_depth = 16

-- a description is one part; 38 at the first byte that is left over
abbrev pub wholly : List ℕ → Part → Placed Layout
wholly s x = cond (eqb x.1 (length s)) (reached x.0) (stopped 38 x.1)

unfoldable pub described_for : ℕ → Target → List ℕ → Placed Layout
described_for w target s = go_on (part_for w target greatest_depth s 0) (wholly s)
