-- `placing::place_member` meets its contract. Assumes nothing.
use Rattle.std.proofs.Common.{◌≡◌, ◌+◌, ◌%◌, ◌^◌, arith, le-ltb, lt-ltb}
use Rattle.util_defs.specs.Width.{M}
use Rattle.util_defs.specs.Refusal.{unless}
use Rattle.placing.proofs.place_member.Goals as goal

pub returns-then-end-place : goal.returns-then-end-place
unfolding unless
returns-then-end-place c =
    let q = c.args.place in
    let s = c.in-Sized.size in
    simp (c.in-Sized.is, lt-ltb (M 64) (q + s) (omega arith))

pub returns-else-end-place : goal.returns-else-end-place
unfolding unless
returns-else-end-place c =
    let q = c.args.place in
    let s = c.in-Sized.size in
    let e : (q + s) % 2 ^ 64 ≡ q + s = omega arith in
    simp (c.in-Sized.is, le-ltb (M 64) (q + s) (omega arith), e)

pub returns-in-SliceDst : goal.returns-in-SliceDst
returns-in-SliceDst c = simp c.in-SliceDst.is c.place_trailing.ensures
