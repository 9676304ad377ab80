-- `cast::exact_checked` meets its contract. Assumes nothing.
use Prim.Native.Nat.{ℕ}
use mathlib.Core.Path.{sym, ap, subst}
use Rattle.layout_defs.specs.Extend.{IsTrailing, is_trailing}
use Rattle.layout.specs.declared.SizeInfo.{SizeInfo}
use Rattle.layout.specs.View.{info_of, layout_of}
use Rattle.cast.proofs.Told.{exact_fixed}
use Rattle.cast.proofs.exact_checked.Goals as goal

pub exact_elems-requires : goal.exact_elems-requires
exact_elems-requires c = subst (λ (i : SizeInfo ℕ). IsTrailing (info_of i)) (sym c.in-SliceDst.is) tt

pub returns-in-Sized : goal.returns-in-Sized
returns-in-Sized c = exact_fixed 64 (layout_of c.args.valid.layout) c.args.size (ap (λ (i : SizeInfo ℕ). is_trailing (info_of i)) c.in-Sized.is)
