-- Worked descriptions at 64 bits: the order of reading and the places of refusals, case by case. Assumes nothing.
use mathlib.Core.Path.{◌≡◌, refl}
use mathlib.Core.Bool.{true, false}
use mathlib.Core.List.{List, [], ◌∷◌}
use Prim.Native.Nat.{ℕ}
use Rattle.util_defs.specs.Power.{power_of_two}
use Rattle.util_defs.specs.Round.{up}
use Rattle.util_defs.specs.Refusal.{unless}
use Rattle.util_defs.specs.Placed.{Placed, reached, stopped}
use Rattle.layout_defs.specs.Layout.{Layout, fixed}
use Rattle.layout_defs.specs.Extend.{extended}
use Rattle.padding_defs.specs.Pad.{pad_for, padded}
use Rattle.scalar.specs.Scalar.{target64}
use Rattle.words.specs.Bytes.{value_of}
use Rattle.compose_defs.specs.Compose.{begin_for}
use Rattle.describe_defs.specs.Elements.{array_for, slice_of_for}
use Rattle.describe_defs.specs.Describe.{add_read, struct_at, array_at, slice_at, part_for, described_for}

abbrev gives : List ℕ → Placed Layout
gives s = described_for 64 target64 s

-- bytes run out: before the tag, in a header, in a count, before a member
cut_tag : gives [] ≡ stopped 33 0
unfolding described_for part_for
cut_tag = refl

cut_count : gives (16 ∷ 4 ∷ 0 ∷ []) ≡ stopped 33 3
unfolding described_for part_for array_at
cut_count = refl

-- header bytes are judged one by one: a power of 64 before the packing that is missing
power_first : gives (17 ∷ 65 ∷ []) ≡ stopped 34 1
unfolding described_for part_for struct_at
power_first = refl

-- a member is added once its last byte is read: an unknown tag in the second stands before 7
seven_late : gives (17 ∷ 0 ∷ 0 ∷ 2 ∷ 18 ∷ 0 ∷ 20 ∷ []) ≡ stopped 34 6
unfolding described_for part_for struct_at slice_at add_read begin_for slice_of_for extended unless power_of_two up value_of
seven_late = refl

seven_at_tag : gives (17 ∷ 0 ∷ 0 ∷ 2 ∷ 18 ∷ 0 ∷ 0 ∷ []) ≡ stopped 7 0
unfolding described_for part_for struct_at slice_at add_read begin_for slice_of_for extended unless power_of_two up value_of
seven_at_tag = refl

-- sixteen slices are open: the tag that opens the next is refused before its count is
seventeenth : gives (18 ∷ 18 ∷ 18 ∷ 18 ∷ 18 ∷ 18 ∷ 18 ∷ 18 ∷ 18 ∷ 18 ∷ 18 ∷ 18 ∷ 18 ∷ 18 ∷ 18 ∷ 18 ∷ 16 ∷ []) ≡ stopped 35 16
unfolding described_for part_for slice_at
seventeenth = refl

-- an element is judged once read, at the tag that holds it
slices_in_array : gives (16 ∷ 2 ∷ 0 ∷ 0 ∷ 0 ∷ 18 ∷ 0 ∷ []) ≡ stopped 36 0
unfolding described_for part_for array_at slice_at array_for slice_of_for unless power_of_two value_of
slices_in_array = refl

-- and not before: an unknown tag in a slice that is an array's element stands before 36
judged_late : gives (16 ∷ 2 ∷ 0 ∷ 0 ∷ 0 ∷ 18 ∷ 20 ∷ []) ≡ stopped 34 6
unfolding described_for part_for array_at slice_at value_of
judged_late = refl

array_past : gives (16 ∷ 255 ∷ 255 ∷ 255 ∷ 255 ∷ 16 ∷ 255 ∷ 255 ∷ 255 ∷ 255 ∷ 3 ∷ []) ≡ stopped 37 0
unfolding described_for part_for array_at array_for unless power_of_two value_of
array_past = refl

left_over : gives (0 ∷ 0 ∷ []) ≡ stopped 38 1
unfolding described_for part_for
left_over = refl

-- an array of three u16, and a struct of u8 and u32
three_u16 : gives (16 ∷ 3 ∷ 0 ∷ 0 ∷ 0 ∷ 1 ∷ []) ≡ reached (record { align = 2; info = fixed 6; mark = true; modifier = false })
unfolding described_for part_for array_at array_for unless power_of_two value_of
three_u16 = refl

u8_u32 : gives (17 ∷ 0 ∷ 0 ∷ 2 ∷ 0 ∷ 2 ∷ []) ≡ reached (record { align = 4; info = fixed 8; mark = false; modifier = false })
unfolding described_for part_for struct_at add_read begin_for extended pad_for padded unless power_of_two up value_of
u8_u32 = refl

-- the same struct, its count in two bytes; cut in its count; 256 members are missing
u8_u32_long : gives (19 ∷ 0 ∷ 0 ∷ 2 ∷ 0 ∷ 0 ∷ 2 ∷ []) ≡ reached (record { align = 4; info = fixed 8; mark = false; modifier = false })
unfolding described_for part_for struct_at add_read begin_for extended pad_for padded unless power_of_two up value_of
u8_u32_long = refl

long_cut : gives (19 ∷ 0 ∷ 0 ∷ 2 ∷ []) ≡ stopped 33 4
unfolding described_for part_for struct_at value_of
long_cut = refl

long_high : gives (19 ∷ 0 ∷ 0 ∷ 0 ∷ 1 ∷ []) ≡ stopped 33 5
unfolding described_for part_for struct_at add_read begin_for unless power_of_two value_of
long_high = refl
