-- `convert::compute_from_unsized` meets its contract. Assumes nothing.
use Prim.Native.Nat.{ℕ}
use mathlib.Core.Path.{sym, ap, ◌∙◌}
use Rattle.shift_defs.specs.Mode.{comparison_of}
use Rattle.shift.specs.View.{mode_of}
use Rattle.trailing.specs.View.{trailing_of}
use Rattle.layout_defs.specs.Layout.{trailing}
use Rattle.layout.specs.declared.SizeInfo.{SizeInfo}
use Rattle.layout.specs.View.{info_of, layout_of}
use Rattle.convert_defs.specs.Convert.{by_kinds}
use Rattle.util_defs.specs.Refusal.{unless}
use Rattle.convert.proofs.compute_from_unsized.Goals as goal

pub compute_unsized-requires : goal.compute_unsized-requires
compute_unsized-requires c =
    (c.requires, ap info_of c.in-SliceDst.is)

pub returns-in-Sized : goal.returns-in-Sized
unfolding unless
returns-in-Sized c = ap (λ (i : SizeInfo ℕ). by_kinds 64 (comparison_of 64 (mode_of c.args.mode)) (trailing (trailing_of c.args.src)) (layout_of c.args.valid_dst.layout) (info_of i)) (sym c.in-Sized.is)

pub returns-in-SliceDst : goal.returns-in-SliceDst
returns-in-SliceDst c = c.compute_unsized.ensures ∙ ap (λ (i : SizeInfo ℕ). by_kinds 64 (comparison_of 64 (mode_of c.args.mode)) (trailing (trailing_of c.args.src)) (layout_of c.args.valid_dst.layout) (info_of i)) (sym c.in-SliceDst.is)
