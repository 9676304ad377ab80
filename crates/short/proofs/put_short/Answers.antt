-- `short::put_short` meets its contract. Assumes nothing.
use Rattle.short_defs.proofs.Told.{put_short_lem}
use Rattle.short.specs.View.{short_in}
use Rattle.short.proofs.put_short.Goals as goal

pub returns : goal.returns
returns c = cc (put_short_lem c.args.out.now (short_in c.args.r) c.requires.1 c.requires.0)
