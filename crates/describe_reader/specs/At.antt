-- A part read at a place of a description, none open around it, at a width. Assumes nothing.
use Rattle.std.specs.Prelude.{List, ℕ}
use Rattle.util_defs.specs.Placed.{Placed}
use Rattle.describe_defs.specs.Describe.{Part, greatest_depth, part_for}
use Rattle.width.specs.Width.{narrow_of, bits_of, target_of}
use Rattle.width.specs.declared.Width.{Width}

abbrev pub read_at : Width → List ℕ → ℕ → Placed Part
read_at width s i = part_for (bits_of (narrow_of width)) (target_of (narrow_of width)) greatest_depth s i
