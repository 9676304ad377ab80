-- `layouts32::wide_info` meets its contract. Assumes nothing.
use Prim.Native.Nat.{ℕ}
use Rattle.layout.specs.View.{info_of}
use mathlib.Core.Path.{sym, subst}
use native.Mathlib.Omega.{arith}
use Rattle.widths_layouts_defs.specs.Low.{InfoIn}
use Rattle.layout.specs.declared.SizeInfo.{SizeInfo}
use Rattle.layouts32.proofs.wide_info.Goals as goal

pub returns-in-Sized : goal.returns-in-Sized
returns-in-Sized c =
    let e = c.in-Sized.is in
    (simp e, subst (λ (x : SizeInfo ℕ). InfoIn 32 (info_of x)) (sym e) (omega arith))

pub returns-in-SliceDst : goal.returns-in-SliceDst
returns-in-SliceDst c =
    let e = c.in-SliceDst.is in
    (simp (e, c.wide_tail.ensures.0), subst (λ (x : SizeInfo ℕ). InfoIn 32 (info_of x)) (sym e) c.wide_tail.ensures.1)
