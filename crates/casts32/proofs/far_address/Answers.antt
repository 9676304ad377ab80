-- `casts32::far_address` meets its contract. Assumes nothing.
use Prim.Native.Nat.{◌+◌}
use native.Mathlib.Omega.{arith}
use borrow.Author.Tests.{le-leb, lt-leb}
use Rattle.util_defs.specs.Width.{M}
use Rattle.casts32.proofs.far_address.Goals as goal

pub returns-then-addr-len : goal.returns-then-addr-len
returns-then-addr-len c =
    simp (lt-leb (c.args.addr + c.args.len) (M 32) (omega arith))

pub returns-else-addr-len : goal.returns-else-addr-len
returns-else-addr-len c =
    simp (le-leb (c.args.addr + c.args.len) (M 32) (omega arith))
