-- `short::fits_short` meets its contract. Assumes nothing.
use Prim.Native.Nat.{ℕ}
use mathlib.Core.Path.{sym, ap}
use lib.Dec.{leb}
use Rattle.layout.specs.declared.SizeInfo.{SizeInfo}
use Rattle.layout.specs.View.{info_of}
use Rattle.record_defs.specs.Record.{words_of}
use Rattle.short.proofs.fits_short.Goals as goal

pub returns-in-Sized : goal.returns-in-Sized
returns-in-Sized c = ap (λ (i : SizeInfo ℕ). leb (words_of (record { align = c.args.l.align; info = info_of i; mark = c.args.l.statically_shallow_unpadded; modifier = c.args.l.align_modifier })).word 4294967295) (sym c.in-Sized.is)

pub returns-in-SliceDst : goal.returns-in-SliceDst
returns-in-SliceDst c = ap (λ (i : SizeInfo ℕ). leb (words_of (record { align = c.args.l.align; info = info_of i; mark = c.args.l.statically_shallow_unpadded; modifier = c.args.l.align_modifier })).word 4294967295) (sym c.in-SliceDst.is)
