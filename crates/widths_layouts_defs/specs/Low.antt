-- What v bits keep of a layout, and that they hold its numbers. Assumes nothing.
use Rattle.std.specs.Prelude.{ℕ, ◌^◌, ◌<◌}
use Rattle.layout_defs.specs.Layout.{Info, fixed, trailing, Layout}
use Rattle.widths_defs.specs.Low.{low, low_tail, TailIn}

abbrev pub low_info : ℕ → Info → Info
low_info v (fixed s) = fixed (low v s)
low_info v (trailing t) = trailing (low_tail v t)

abbrev pub low_layout : ℕ → Layout → Layout
low_layout v l =
    record { align = low v l.align; info = low_info v l.info; mark = l.mark; modifier = l.modifier }

abbrev pub InfoIn : ℕ → Info → Type 0
InfoIn v (fixed s) = s < 2 ^ v
InfoIn v (trailing t) = TailIn v t

pub record LayoutIn (v : ℕ) (l : Layout) : Type 0 where
  pub align : l.align < 2 ^ v
  pub info : InfoIn v l.info
