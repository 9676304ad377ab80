-- What a call on elements gives at fewer bits, whose greatest number is m, by what it gives at more. Assumes nothing.
use Rattle.std.specs.Prelude.{ℕ}
use Rattle.util_defs.specs.Refusal.{Outcome}
use Rattle.layout_defs.specs.Layout.{Layout}
use Rattle.widths_defs.specs.Within.{limited}
use Rattle.widths_layouts_defs.specs.Within.{closed_within}

-- `for_array`: 37 where the array's size passes m
abbrev pub array_within : ℕ → Outcome Layout → Outcome Layout
array_within m o = limited 37 (λ l. closed_within m l.info) o
