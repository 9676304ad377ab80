-- `convert::compute` meets its contract. Assumes nothing.
use Prim.Native.Nat.{ℕ}
use mathlib.Core.Path.{sym, ap, ◌∙◌}
use borrow.Author.Tests.{lt-ltb, le-ltb}
use Rattle.shift_defs.specs.Mode.{comparison_of}
use Rattle.shift.specs.View.{mode_of}
use Rattle.layout.specs.declared.SizeInfo.{SizeInfo}
use Rattle.layout.specs.View.{info_of, layout_of}
use Rattle.convert_defs.specs.Convert.{by_kinds}
use Rattle.util_defs.specs.Refusal.{unless}
use Rattle.convert.proofs.compute.Goals as goal

pub returns-then-src_layout-dst_layout : goal.returns-then-src_layout-dst_layout
unfolding unless
returns-then-src_layout-dst_layout c =
    let s = layout_of c.args.valid_src.layout in
    let t = layout_of c.args.valid_dst.layout in
    simp (lt-ltb s.align t.align c.if-src_layout-dst_layout.true)

pub compute_from_unsized-requires : goal.compute_from_unsized-requires
compute_from_unsized-requires c =
    ap info_of c.in-SliceDst.is

pub returns-in-Sized : goal.returns-in-Sized
unfolding unless
returns-in-Sized c =
    let s = layout_of c.args.valid_src.layout in
    let t = layout_of c.args.valid_dst.layout in
    c.compute_from_sized.ensures (mode_of c.args.mode) ∙ ap (λ (i : SizeInfo ℕ). by_kinds 64 (comparison_of 64 (mode_of c.args.mode)) (info_of i) t t.info) (sym c.in-Sized.is) ∙ simp (le-ltb s.align t.align c.if-src_layout-dst_layout.false)

pub returns-in-SliceDst : goal.returns-in-SliceDst
unfolding unless
returns-in-SliceDst c =
    let s = layout_of c.args.valid_src.layout in
    let t = layout_of c.args.valid_dst.layout in
    c.compute_from_unsized.ensures ∙ ap (λ (i : SizeInfo ℕ). by_kinds 64 (comparison_of 64 (mode_of c.args.mode)) (info_of i) t t.info) (sym c.in-SliceDst.is) ∙ simp (le-ltb s.align t.align c.if-src_layout-dst_layout.false)
