-- What the types of this crate are, over numbers: document 01's number and values for each case of an answer. Assumes nothing.
use Rattle.std.specs.Prelude.{ℕ, Result}
use Rattle.util.specs.View.{says, accepted}
use Rattle.util.specs.declared.refusal.Refusal.{Refusal}
use Rattle.util_defs.specs.Refusal.{Outcome, answered, refused}
use Rattle.trailing.specs.View.{trailing_of}
use Rattle.layout_defs.specs.Layout.{Info, fixed, trailing, Layout}
use Rattle.layout.specs.declared.SizeInfo.{SizeInfo}
use Rattle.layout.specs.declared.SizeInfo.TheVariants.{Sized, SliceDst}
use Rattle.layout.specs.declared.DstLayout.{DstLayout}
use Rattle.layout.specs.declared.SizedLayout.{SizedLayout}

abbrev pub info_of : SizeInfo ℕ → Info
info_of (Sized s) = fixed s
info_of (SliceDst t) = trailing (trailing_of t)

abbrev pub layout_of : DstLayout ℕ → Layout
layout_of l = record {
  align = l.align;
  info = info_of l.size_info;
  mark = l.statically_shallow_unpadded;
  modifier = l.align_modifier;
}

abbrev pub sized_of : SizedLayout → Layout
sized_of l = record {
  align = l.align;
  info = fixed l.size;
  mark = l.statically_shallow_unpadded;
  modifier = l.align_modifier;
}

abbrev pub layout_says : Result (DstLayout ℕ) Refusal → Outcome Layout
layout_says = says layout_of

abbrev pub info_says : Result (SizeInfo ℕ) Refusal → Outcome Info
info_says = says info_of

abbrev pub check_says : Result (Unit {0}) Refusal → Outcome (Unit {0})
check_says = says accepted
