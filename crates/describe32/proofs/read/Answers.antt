-- `describe32::read` meets its contract. Assumes nothing.
use Rattle.describe32.proofs.Narrowed.{read_low}
use Rattle.describe32.proofs.read.Goals as goal

pub returns : goal.returns
returns c = let told_here = read_low c.args.description.now c.read.ensures.answer c.low_read.ensures in record { answer = told_here.0; meaning = told_here.1 }
