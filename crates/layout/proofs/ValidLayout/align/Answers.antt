-- `layout::ValidLayout::align` gives a power of two. Assumes nothing.
use Rattle.std.proofs.Common.{arith}
use Rattle.util_defs.proofs.Helpers.{power}
use Rattle.layout.proofs.ValidLayout.align.Goals as goal

pub invariant_of-result : goal.invariant_of-result
invariant_of-result c = record { power = power 64 c.args.self.layout.align (omega arith) c.args.self.accepted.0 }
