-- `sums::add_sized` meets its contract. Assumes nothing.
use mathlib.Core.Path.{sym}
use native.Mathlib.Omega.{arith}
use Rattle.sums.specs.Bits.{bits_to}
use Rattle.sums.specs.View.{sums_of}
use Rattle.share_defs.proofs.Told.{sum_passes_lem, sum_greater, sum_kept}
use Rattle.sums.proofs.add_sized.Goals as goal

pub returns-then-x-l : goal.returns-then-x-l
returns-then-x-l c = sym (sum_passes_lem (bits_to c.args.l.max) c.args.i c.args.size c.args.padding (sums_of c.args.x) (omega (arith, c.args.l.is_width, c.if-x-l.true)))

pub returns-then-padding-x : goal.returns-then-padding-x
returns-then-padding-x c = sym (sum_greater (bits_to c.args.l.max) c.args.i c.args.size c.args.padding (sums_of c.args.x) c.args.x.within c.requires.0 (omega (arith, c.args.l.is_width)) c.if-padding-x.true)

pub returns : goal.returns
returns c = sym (sum_kept (bits_to c.args.l.max) c.args.i c.args.size c.args.padding (sums_of c.args.x) c.args.x.within c.requires.0 (omega (arith, c.args.l.is_width)) (omega arith))
