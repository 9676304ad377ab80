-- `short::power_of` meets its contract. Assumes nothing.
use Rattle.std.proofs.Common.{arith}
use Rattle.util_defs.proofs.Refusals.{told_true}
use Rattle.util_defs.proofs.Powers.{tells_power}
use Rattle.short_defs.proofs.Told.{zeros_power}
use Rattle.short.proofs.power_of.Goals as goal

pub overflow_sub-result : goal.overflow_sub-result
overflow_sub-result c = let a = c.args.align in (zeros_power 64 a.value (told_true (tells_power 64 a.value (omega arith)) a.power)).0

pub returns : goal.returns
returns c = let a = c.args.align in (zeros_power 64 a.value (told_true (tells_power 64 a.value (omega arith)) a.power)).1
