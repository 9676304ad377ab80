-- `util::Align::remainder` meets its contract. Assumes nothing.
use Rattle.util_defs.proofs.Masks.{mask_mod}
use Rattle.util.proofs.align.Align.remainder.Goals as goal

pub returns : goal.returns
returns c = mask_mod c.args.n c.args.self.power
