-- The grammar of type descriptions (document 02, requests 4, 7 and 8), without refusals: which bytes describe a type, and which
-- layout it has. Assumes nothing.
use Rattle.std.specs.Prelude.{◌≡◌, List, [], ◌∷◌, map, ℕ, zero, suc, ◌+◌, ◌≤◌, ◌<◌, length, take, drop, get_or}
use Rattle.util_defs.specs.Width.{M}
use Rattle.util_defs.specs.Refusal.{answered}
use Rattle.layout_defs.specs.Layout.{Layout}
use Rattle.scalar.specs.Scalar.{Target, greatest_code, scalar_layout}
use Rattle.words.specs.Bytes.{value_of}
use Rattle.compose_defs.specs.Compose.{composed, Member, ported, compose_struct}
use Rattle.describe_defs.specs.Elements.{array_for, slice_of_for}
use Rattle.describe_defs.specs.Describe.{Counted, struct_tag, count_bytes, count_length, greatest_power, power_of, greatest_depth}

-- bytes from a place to another, and the layout that they stand for
abbrev pub Stands : Type 1
Stands = ℕ → ℕ → Layout → Type 0

-- b is the byte at i
pub record IsByte (s : List ℕ) (i b : ℕ) : Type 0 where
  pub within : i < length s
  pub is : get_or s i 0 ≡ b

-- the byte at i stands for an alignment or a packing that fits the width: 0 none, else 1 + the power
pub record IsPower (w : ℕ) (s : List ℕ) (i a : ℕ) : Type 0 where
  pub byte : ℕ
  pub at : IsByte s i byte
  pub most : byte ≤ 1 + greatest_power
  pub fits : power_of byte ≤ M w
  pub is : a ≡ power_of byte

-- n is the little-endian count of k bytes at i
pub record IsCount (k : ℕ) (s : List ℕ) (i n : ℕ) : Type 0 where
  pub within : i + k ≤ length s
  pub is : value_of (take k (drop i s)) ≡ n

-- parts one behind the other, and their layouts
pub data Run (Inner : Stands) : ℕ → ℕ → List Layout → Type 0 where
  none : {i : ℕ} → Run Inner i i []
  one : {i j k : ℕ} {m : Layout} {ms : List Layout} → Inner i j m → Run Inner j k ms → Run Inner i k (m ∷ ms)

-- layouts as the members of a composition
abbrev pub members : List Layout → List Member
members ms = map answered ms

-- the header of a struct at t: the tag 17 or 19, alignment and packing, and the member count
pub record Header (w : ℕ) (s : List ℕ) (t : ℕ) (c : Counted) (align packing n : ℕ) : Type 0 where
  pub tag : IsByte s t (struct_tag c)
  pub aligned : IsPower w s (t + 1) align
  pub packed : IsPower w s (t + 2) packing
  pub count : IsCount (count_bytes c) s (t + 3) n

-- a scalar: its code
pub data ScalarIs (target : Target) (s : List ℕ) : ℕ → ℕ → Layout → Type 0 where
  a_code : {t b : ℕ} → IsByte s t b → b ≤ greatest_code → ScalarIs target s t (t + 1) (scalar_layout target b)

-- a part: a scalar; an array, 16, a count and an element; a struct, its header and so many members, whose layout is that of their
-- composition; a slice, 18 and an element
pub data PartIs (w : ℕ) (target : Target) (s : List ℕ) (Inner : Stands) : ℕ → ℕ → Layout → Type 0 where
  a_scalar : {t j : ℕ} {l : Layout} → ScalarIs target s t j l → PartIs w target s Inner t j l
  an_array : {t j n : ℕ} {m l : Layout} → IsByte s t 16 → IsCount count_length s (t + 1) n → Inner (t + 1 + count_length) j m
      → array_for w m n ≡ answered l → PartIs w target s Inner t j l
  a_struct : {t j align packing : ℕ} {c : Counted} {ms : List Layout} {l : Layout} → Header w s t c align packing (length ms)
      → Run Inner (t + 3 + count_bytes c) j ms → compose_struct w ported align packing (members ms) ≡ composed l
      → PartIs w target s Inner t j l
  a_slice : {t j : ℕ} {m l : Layout} → IsByte s t 18 → Inner (t + 1) j m → slice_of_for w m ≡ answered l
      → PartIs w target s Inner t j l

-- a part with so many more that may be open
unfoldable pub Describes : ℕ → Target → ℕ → List ℕ → Stands
Describes w target zero s = ScalarIs target s
Describes w target (suc d) s = PartIs w target s (Describes w target d s)

-- the bytes are a description of the layout
abbrev pub Description : ℕ → Target → List ℕ → Layout → Type 0
Description w target s l = Describes w target greatest_depth s 0 (length s) l
