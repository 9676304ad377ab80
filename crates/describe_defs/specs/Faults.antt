-- Why bytes are refused as a description, and at which place (document 02, requests 4, 7 and 8): the fault that reading comes to.
-- Assumes nothing.
use Rattle.std.specs.Prelude.{◌≡◌, List, ℕ, zero, suc, ◌+◌, ◌*◌, ◌≤◌, ◌<◌, length}
use Rattle.util_defs.specs.Width.{M}
use Rattle.util_defs.specs.Refusal.{answered}
use Rattle.util_defs.specs.Placed.{Placed, reached, stopped}
use Rattle.layout_defs.specs.Layout.{Layout, check_for}
use Rattle.layout_defs.specs.Extend.{IsTrailing}
use Rattle.scalar.specs.Scalar.{Target, greatest_code, scalar_layout}
use Rattle.compose_defs.specs.Compose.{composed, refused_at, ported, compose_members, compose_struct}
use Rattle.describe_defs.specs.Elements.{element_size}
use Rattle.describe_defs.specs.Describe.{Part, Counted, struct_tag, count_bytes, Form, array, struct, slice, count_length}
use Rattle.describe_defs.specs.Describe.{greatest_power, power_of, greatest_depth}
use Rattle.describe_defs.specs.Grammar.{IsByte, IsPower, IsCount, Run, members, Header, Describes, Description}

-- the tags that open a part; a byte that is none of them and no scalar's code
abbrev pub tag_byte : Form → ℕ
tag_byte array = 16
tag_byte (struct c) = struct_tag c
tag_byte slice = 18

abbrev pub UnknownTag : ℕ → Type 0
UnknownTag b = (greatest_code < b) × ((f : Form) → b ≡ tag_byte f → ⊥)

-- no alignment or packing at i: the byte is missing, its power is above the greatest, or the number does not fit the width
pub data BadPower (w : ℕ) (s : List ℕ) (i : ℕ) : ℕ → ℕ → Type 0 where
  no_power : i ≡ length s → BadPower w s i 33 i
  power_above : {b : ℕ} → IsByte s i b → 1 + greatest_power < b → BadPower w s i 34 i
  power_passes : {b : ℕ} → IsByte s i b → b ≤ 1 + greatest_power → M w < power_of b → BadPower w s i 43 i

-- no header of a struct at t: its bytes are judged one by one
pub data BadHeader (w : ℕ) (s : List ℕ) (t : ℕ) (c : Counted) : ℕ → ℕ → Type 0 where
  bad_align : {k i : ℕ} → BadPower w s (t + 1) k i → BadHeader w s t c k i
  bad_packing : {align k i : ℕ} → IsPower w s (t + 1) align → BadPower w s (t + 2) k i → BadHeader w s t c k i
  no_count : {align packing : ℕ} → IsPower w s (t + 1) align → IsPower w s (t + 2) packing → length s < t + 3 + count_bytes c
      → BadHeader w s t c 33 (length s)

-- the scalars of the target are layouts at the width
abbrev pub ScalarsAccepted : ℕ → Target → Type 0
ScalarsAccepted w target = (b : ℕ) → b ≤ greatest_code → check_for w (scalar_layout target b) ≡ answered tt

module _ (w : ℕ) (target : Target) (s : List ℕ) where
  -- the element of an array of n at t, or of a slice, with d parts more that may be open in it
  pub record ArrayOf (d t n : ℕ) (m : Layout) : Type 0 where
    pub tag : IsByte s t 16
    pub count : IsCount count_length s (t + 1) n
    pub next : ℕ
    pub element : Describes w target d s (t + 1 + count_length) next m

  pub record SliceOf (d t : ℕ) (m : Layout) : Type 0 where
    pub tag : IsByte s t 18
    pub next : ℕ
    pub element : Describes w target d s (t + 1) next m

  -- the first members of a struct at t, as many as were read
  pub record MembersOf (d t : ℕ) (c : Counted) (align packing n j : ℕ) (ms : List Layout) : Type 0 where
    pub header : Header w s t c align packing n
    pub run : Run (Describes w target d s) (t + 3 + count_bytes c) j ms

  -- a part at a place is read, with so many more that may be open
  module _ (depth start : ℕ) where
    -- reading comes to a part at t, with d more that may be open: the first; an element; a member, once those before it are added
    pub data Comes : ℕ → ℕ → Type 0 where
      first : Comes depth start
      element : {d t n : ℕ} → Comes (suc d) t → IsByte s t 16 → IsCount count_length s (t + 1) n → Comes d (t + 1 + count_length)
      sliced : {d t : ℕ} → Comes (suc d) t → IsByte s t 18 → Comes d (t + 1)
      member : {d t align packing n j : ℕ} {c : Counted} {ms : List Layout} {l : Layout} → Comes (suc d) t
          → MembersOf d t c align packing n j ms → length ms < n
          → compose_members w ported align packing (members ms) ≡ composed l → Comes d j

    -- a refusal and its place. 33: bytes run out, at the first that is missing. 34: a tag is unknown, or a power above the
    -- greatest. 35: a tag opens one part too many. 36: an element is trailing. 37: an array's size passes M. 43: a power does not
    -- fit the width. What refuses to compose a struct, of the members so far, or of all of them with closing padding
    pub data PartFault : ℕ → ℕ → Type 0 where
      no_tag : {d t : ℕ} → Comes d t → length s ≤ t → PartFault 33 t
      unknown_tag : {d t b : ℕ} → Comes d t → IsByte s t b → UnknownTag b → PartFault 34 t
      too_deep : {t : ℕ} → Comes zero t → (f : Form) → IsByte s t (tag_byte f) → PartFault 35 t
      count_cut : {d t : ℕ} → Comes (suc d) t → IsByte s t 16 → length s < t + 1 + count_length → PartFault 33 (length s)
      in_header : {d t k i : ℕ} (c : Counted) → Comes (suc d) t → IsByte s t (struct_tag c) → BadHeader w s t c k i
          → PartFault k i
      array_of_trailing : {d t n : ℕ} {m : Layout} → Comes (suc d) t → ArrayOf d t n m → IsTrailing m.info → PartFault 36 t
      slice_of_trailing : {d t : ℕ} {m : Layout} → Comes (suc d) t → SliceOf d t m → IsTrailing m.info → PartFault 36 t
      array_passes : {d t n : ℕ} {m : Layout} → Comes (suc d) t → ArrayOf d t n m → M w < element_size m * n → PartFault 37 t
      of_members : {d t align packing n j k place : ℕ} {c : Counted} {ms : List Layout} → Comes (suc d) t
          → MembersOf d t c align packing n j ms → length ms ≤ n
          → compose_members w ported align packing (members ms) ≡ refused_at k place → PartFault k t
      of_struct : {d t align packing j k place : ℕ} {c : Counted} {ms : List Layout} → Comes (suc d) t
          → MembersOf d t c align packing (length ms) j ms
          → compose_struct w ported align packing (members ms) ≡ refused_at k place → PartFault k t

    -- what reading a part means: it stands in the bytes from its place to behind its last byte; a refusal, that none stands
    -- there, and the fault
    abbrev pub PartMeans : Placed Part → Type 0
    PartMeans (reached x) = Describes w target depth s start x.1 x.0
    PartMeans (stopped k i) = ((j : ℕ) (l : Layout) → Describes w target depth s start j l → ⊥) × PartFault k i

  -- of a description: that of its part, or 38: bytes are left over
  pub data Fault : ℕ → ℕ → Type 0 where
    in_part : {k i : ℕ} → PartFault greatest_depth 0 k i → Fault k i
    left_over : {i : ℕ} (l : Layout) → Describes w target greatest_depth s 0 i l → i < length s → Fault 38 i

  -- what reading a description means: a layout is the one that the bytes describe; a refusal, that they describe none, and the
  -- fault
  abbrev pub ReadMeans : Placed Layout → Type 0
  ReadMeans (reached l) = Description w target s l
  ReadMeans (stopped k i) = ((l : Layout) → Description w target s l → ⊥) × Fault k i
