-- `full::round_up` meets its contract. Assumes nothing.
use Rattle.util_defs.specs.Round.{down, up}
use Rattle.full.proofs.round_up.Goals as goal

pub returns : goal.returns
unfolding down up
returns c = c.round_down.ensures
