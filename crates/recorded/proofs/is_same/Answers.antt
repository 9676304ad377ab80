-- `recorded::is_same` meets its contract. Assumes nothing.
use mathlib.Core.Path.{◌≡◌, sym}
use Prim.Native.Nat.{◌+◌, ◌-◌}
use native.Mathlib.Omega.{arith}
use Rattle.recorded_defs.proofs.Reading.{same_slices}
use Rattle.std.proofs.Common.{rules}
use Rattle.recorded.proofs.is_same.Goals as goal

pub returns : goal.returns
returns c =
    let x = c.args in
    let e : x.from + x.length - x.from ≡ x.length = omega arith in
    rw (sym (same_slices x.length x.from 0 x.line.now x.told (omega (arith, c.requires.0, c.told-line)) (omega (arith, c.requires.1)))) (search rules)
