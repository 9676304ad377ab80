-- The two widths (document 02, request 7), and what the steps of a loop give on layouts of numbers that 64 bits hold. Assumes
-- nothing.
use Rattle.std.specs.Prelude.{Bool, true, false, ℕ}
use Rattle.util_defs.specs.Width.{M}
use Rattle.util_defs.specs.Refusal.{Outcome}
use Rattle.layout_defs.specs.Layout.{Layout}
use Rattle.layout_defs.specs.Extend.{extend_for}
use Rattle.padding_defs.specs.Pad.{pad_for}
use Rattle.scalar.specs.Scalar.{Target, target64}
use Rattle.describe_defs.specs.Elements.{array_for}
use Rattle.widths_layouts_defs.specs.Low.{LayoutIn}
use Rattle.widths_layouts_defs.specs.Within.{step_within, pad_within}
use Rattle.scalar32.specs.Target.{target32}
use Rattle.elements32.specs.Within.{array_within}
use Rattle.width.specs.declared.Width.{Width}
use Rattle.width.specs.declared.Width.TheVariants.{Bits32, Bits64}

-- whether a width is the narrow one
abbrev pub narrow_of : Width → Bool
narrow_of Bits32 = true
narrow_of Bits64 = false

-- the bits of a word, of the narrow width or the other, and the scalars of the target that has such words
abbrev pub bits_of : Bool → ℕ
bits_of true = 32
bits_of false = 64

abbrev pub target_of : Bool → Target
target_of true = target32
target_of false = target64

-- the member step, final padding and an array: at 32 bits by those at 64 (`extend_at`, `pad_at`, `array_at`)
abbrev pub width_extend : Bool → Layout → Layout → ℕ → Outcome Layout
width_extend true l m packing = step_within (M 32) m.info (extend_for 64 l m packing)
width_extend false l m packing = extend_for 64 l m packing

abbrev pub width_pad : Bool → Layout → Outcome Layout
width_pad true l = pad_within (M 32) (pad_for 64 l)
width_pad false l = pad_for 64 l

abbrev pub width_array : Bool → Layout → ℕ → Outcome Layout
width_array true l n = array_within (M 32) (array_for 64 l n)
width_array false l n = array_for 64 l n

-- a word holds the numbers of a layout; 64 bits hold all that the code handles
abbrev pub Held : Bool → Layout → Type 0
Held true l = LayoutIn 32 l
Held false l = Unit {0}
