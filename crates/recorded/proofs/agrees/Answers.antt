-- `recorded::agrees` meets its contract. Assumes nothing.
use mathlib.Core.Path.{◌≡◌}
use Prim.Native.Nat.{◌+◌}
use native.Mathlib.Omega.{arith}
use borrow.Author.Tests.{lt-ltb, le-ltb, eq-eqb, ne_eqb}
use Rattle.recorded.proofs.agrees.Goals as goal

pub returns-then-count-gt-WIDTH : goal.returns-then-count-gt-WIDTH
returns-then-count-gt-WIDTH c = rw (lt-ltb 64 c.args.count c.if-count-gt-WIDTH.true)

pub returns-then-length-gt-LENGTH : goal.returns-then-length-gt-LENGTH
returns-then-length-gt-LENGTH c = let x = c.args in rw (le-ltb 64 x.count c.if-count-gt-WIDTH.false, lt-ltb 13 x.told.length c.if-length-gt-LENGTH.true)

pub returns-then-inputs-gt-WIDTH : goal.returns-then-inputs-gt-WIDTH
returns-then-inputs-gt-WIDTH c =
    let x = c.args in
    rw (
      le-ltb 64 x.count c.if-count-gt-WIDTH.false,
      le-ltb 13 x.told.length c.if-length-gt-LENGTH.false,
      ne_eqb x.count (1 + x.told.inputs + x.told.length) (λ e. let f : x.count ≡ 1 + x.told.inputs + x.told.length = e in omega (arith, f, c.if-inputs-gt-WIDTH.true, c.if-count-gt-WIDTH.false)),
    )

pub returns-then-count-inputs : goal.returns-then-count-inputs
returns-then-count-inputs c =
    let x = c.args in
    rw (
      le-ltb 64 x.count c.if-count-gt-WIDTH.false,
      le-ltb 13 x.told.length c.if-length-gt-LENGTH.false,
      ne_eqb x.count (1 + x.told.inputs + x.told.length) c.if-count-inputs.true,
    )

pub returns : goal.returns
returns c =
    let x = c.args in
    rw (
      le-ltb 64 x.count c.if-count-gt-WIDTH.false,
      le-ltb 13 x.told.length c.if-length-gt-LENGTH.false,
      eq-eqb x.count (1 + x.told.inputs + x.told.length) c.if-count-inputs.false,
    ) c.is_same.ensures
