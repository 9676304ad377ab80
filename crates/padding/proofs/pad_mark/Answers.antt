-- `padding::pad_mark` meets its contract. Assumes nothing.
use Rattle.padding_defs.proofs.Padding.{up_same}
use Rattle.padding.proofs.pad_mark.Goals as goal

pub returns-then-unpadded : goal.returns-then-unpadded
returns-then-unpadded c = simp (c.in-Sized.is, c.if-unpadded.true, c.remainder.ensures) (up_same c.in-Sized.size c.args.align.power)
