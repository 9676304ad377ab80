-- `cases::unit_of` meets its contract. Assumes nothing.
use Rattle.cases.proofs.Grown.{unit}
use Rattle.cases.proofs.unit_of.Goals as goal

pub returns : goal.returns
returns c = unit c.args.slot c.requires
