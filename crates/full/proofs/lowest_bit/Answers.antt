-- `full::lowest_bit` meets its contract. Assumes nothing.
use Prim.Native.Nat.{◌<◌}
use mir.Facts.{Fits-below}
use lib.Count.{count_trailing_zeros}
use native.Mathlib.Omega.{arith}
use Rattle.full_defs.proofs.Masks.{trailing_lt, shifted_lowest}
use Rattle.full.proofs.lowest_bit.Goals as goal

pub overflow_cast-result : goal.overflow_cast-result
overflow_cast-result c = let l : count_trailing_zeros 64 c.args.elem < 64 = trailing_lt 64 c.args.elem c.requires c.ranges.elem.fits in Fits-below {n = 64} tt (omega arith)

pub overflow_shl-result : goal.overflow_shl-result
overflow_shl-result c = trailing_lt 64 c.args.elem c.requires c.ranges.elem.fits

pub returns : goal.returns
returns c = shifted_lowest 64 c.args.elem c.requires c.ranges.elem.fits
