-- `placing::place_trailing` meets its contract. Assumes nothing.
use Rattle.std.proofs.Common.{◌+◌, arith, le-ltb, lt-ltb}
use Rattle.util_defs.specs.Width.{M}
use Rattle.util_defs.specs.Refusal.{unless}
use Rattle.placing.proofs.place_trailing.Goals as goal

pub returns-then-place-tail : goal.returns-then-place-tail
unfolding unless
returns-then-place-tail c =
    let a = c.args in
    simp (lt-ltb (M 64) (a.place + a.tail.offset) (omega arith))

pub returns-then-place-tail-2 : goal.returns-then-place-tail-2
unfolding unless
returns-then-place-tail-2 c =
    let a = c.args in
    simp (le-ltb (M 64) (a.place + a.tail.offset) (omega arith), lt-ltb (M 64) (a.place + a.tail.size_base) (omega arith))

pub returns : goal.returns
unfolding unless
returns c =
    let a = c.args in
    simp (le-ltb (M 64) (a.place + a.tail.offset) (omega arith), le-ltb (M 64) (a.place + a.tail.size_base) (omega arith))
