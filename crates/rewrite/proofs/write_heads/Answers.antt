-- `rewrite::write_heads` meets its contract. Assumes nothing.
use native.Mathlib.Omega.{arith}
use Rattle.rewrite.specs.View.{way_of}
use Rattle.rewrite.proofs.Loops.{write_begins, write_room, write_on, write_length, write_ends}
use Rattle.rewrite.proofs.write_heads.Goals as goal

pub loop-at-init : goal.loop-at-init
loop-at-init c = write_begins (way_of c.args.way) c.args.s.now c.args.out.now c.requires.0

pub put_head-to-requires : goal.put_head-to-requires
put_head-to-requires c = write_room (way_of c.args.way) c.args.s.now c.args.out.now c.loop-at.invariant c.requires.1 c.loop-at-test.true

pub bounds-s-at : goal.bounds-s-at
bounds-s-at c = c.loop-at-test.true

pub head_bytes-at-requires : goal.head_bytes-at-requires
head_bytes-at-requires c = tt

pub overflow_add-at : goal.overflow_add-at
overflow_add-at c = omega (arith, c.head_bytes-at.ensures, (write_room (way_of c.args.way) c.args.s.now c.args.out.now c.loop-at.invariant c.requires.1 c.loop-at-test.true).0.1, c.well_formed.0.0)

pub loop-at-smaller : goal.loop-at-smaller
loop-at-smaller c = omega (arith, c.head_bytes-at.ensures, (write_room (way_of c.args.way) c.args.s.now c.args.out.now c.loop-at.invariant c.requires.1 c.loop-at-test.true).0.1, c.loop-at-test.true)

pub loop-at-preserved : goal.loop-at-preserved
loop-at-preserved c = write_on (way_of c.args.way) c.args.s.now c.args.out.now c.loop-at.invariant c.requires.1 c.loop-at-test.true c.put_head-to.ensures c.head_bytes-at.ensures

pub shape_of-out : goal.shape_of-out
shape_of-out c = write_length (way_of c.args.way) c.args.s.now c.args.out.now c.loop-at.invariant c.requires.1

pub returns : goal.returns
returns c = write_ends (way_of c.args.way) c.args.s.now c.args.out.now c.loop-at.invariant c.requires.1 c.loop-at-test.false
