-- `scalar32::scalar_size` meets its contract. Assumes nothing.
use Rattle.scalar32.proofs.Column.{power_below, size_at_lem}
use Rattle.scalar32.proofs.scalar_size.Goals as goal

pub overflow_shl-result : goal.overflow_shl-result
overflow_shl-result c = power_below c.args.code

pub returns : goal.returns
returns c = size_at_lem c.args.code c.requires
