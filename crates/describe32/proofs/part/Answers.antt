-- `describe32::part` meets its contract. Assumes nothing.
use Rattle.describe32.proofs.Narrowed.{part_low}
use Rattle.describe32.proofs.part.Goals as goal

pub returns : goal.returns
returns c = let told_here = part_low c.args.s.now c.args.depth c.args.at c.part.ensures.answer c.low_part.ensures in record { answer = told_here.0; meaning = told_here.1 }
