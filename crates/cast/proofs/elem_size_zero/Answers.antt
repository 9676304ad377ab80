-- `cast::elem_size_zero` meets its contract. Assumes nothing.
use Prim.Native.Nat.{ℕ}
use mathlib.Core.Path.{sym, ap}
use Rattle.layout.specs.declared.SizeInfo.{SizeInfo}
use Rattle.layout.specs.View.{info_of}
use Rattle.cast_defs.specs.Cast.{is_elem_zero}
use Rattle.cast.proofs.elem_size_zero.Goals as goal

pub returns-in-SliceDst : goal.returns-in-SliceDst
returns-in-SliceDst c = ap (λ (i : SizeInfo ℕ). is_elem_zero (info_of i)) (sym c.in-SliceDst.is)
