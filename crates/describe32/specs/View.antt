-- What the answers of this crate are, over numbers, and what v bits keep of those at 64 bits. Assumes nothing.
use Rattle.layout.specs.View.{layout_of}
use Rattle.std.specs.Prelude.{ℕ}
use Rattle.util_defs.specs.Placed.{Placed, reached, stopped}
use Rattle.layout_defs.specs.Layout.{Layout}
use Rattle.describe_defs.specs.Describe.{Part}
use Rattle.widths_layouts_defs.specs.Low.{low_layout}

-- the layout that was read narrowed to v bits
abbrev pub low_part : ℕ → Placed Part → Placed Part
low_part v (reached x) = reached (low_layout v x.0, x.1)
low_part v (stopped k i) = stopped k i

abbrev pub low_read : ℕ → Placed Layout → Placed Layout
low_read v (reached l) = reached (low_layout v l)
low_read v (stopped k i) = stopped k i
