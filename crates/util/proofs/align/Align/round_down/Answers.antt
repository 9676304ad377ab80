-- `util::Align::round_down` meets its contract. Assumes nothing.
use Rattle.std.proofs.Common.{arith}
use Rattle.util_defs.proofs.Masks.{mask_down}
use Rattle.util.proofs.align.Align.round_down.Goals as goal

pub returns : goal.returns
returns c = mask_down 64 c.args.n c.args.self.power (omega arith) c.ranges.n.fits
