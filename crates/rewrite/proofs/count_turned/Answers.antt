-- `rewrite::count_turned` meets its contract. Assumes nothing.
use mathlib.Core.Path.{sym, subst, ◌∙◌}
use Prim.Native.Nat.{◌+◌}
use native.Mathlib.Omega.{arith}
use Rattle.rewrite.specs.View.{way_of}
use Rattle.rewrite.proofs.Loops.{Counting, counting_inside, count_begins, count_turned_on, count_kept_on, count_stops, count_ends}
use Rattle.rewrite.proofs.count_turned.Goals as goal
use Rattle.rewrite.proofs.count_turned.Goals.{then-turns+else-count_above, else-turns}

pub loop-at-init : goal.loop-at-init
loop-at-init c = count_begins (way_of c.args.way) c.args.s.now c.requires

pub bounds-s-at : goal.bounds-s-at
bounds-s-at c = c.loop-at-test.true

pub turns-requires : goal.turns-requires
turns-requires c = tt

pub count_above-requires : goal.count_above-requires
count_above-requires c = ((counting_inside (way_of c.args.way) c.args.s.now c.loop-at.at c.loop-at.turned c.loop-at.invariant c.loop-at-test.true), sym c.turns.ensures ∙ c.if-turns.true)

pub returns-then-count_above : goal.returns-then-count_above
returns-then-count_above c = count_stops (way_of c.args.way) c.args.s.now c.loop-at.invariant c.loop-at-test.true (sym c.count_above.ensures ∙ c.if-count_above.true)

pub overflow_add-turned : goal.overflow_add-turned
overflow_add-turned c = omega (arith, c.loop-at.invariant.few, c.loop-at-test.true, c.well_formed.0.0)

pub head_bytes-at-requires : goal.head_bytes-at-requires
head_bytes-at-requires c = tt

pub overflow_add-at : goal.overflow_add-at
overflow_add-at c = omega (arith, c.head_bytes-at.ensures, (counting_inside (way_of c.args.way) c.args.s.now c.loop-at.at c.loop-at.turned c.loop-at.invariant c.loop-at-test.true).1, c.well_formed.0.0)

pub loop-at-smaller : goal.loop-at-smaller
loop-at-smaller c = omega (arith, c.head_bytes-at.ensures, (counting_inside (way_of c.args.way) c.args.s.now c.loop-at.at c.loop-at.turned c.loop-at.invariant c.loop-at-test.true).1, c.loop-at-test.true)

pub loop-at-preserved : goal.loop-at-preserved
loop-at-preserved c =
    let next = c.loop-at.at + c.head_bytes-at.result in
    elim c.if-turns.branch [
      | then-turns+else-count_above w ↦
          subst (Counting (way_of c.args.way) c.args.s.now next) (sym w.turned-is) (count_turned_on (way_of c.args.way) c.args.s.now c.loop-at.invariant c.loop-at-test.true (sym c.turns.ensures ∙ w.if-turns.true) (sym w.count_above.ensures ∙ w.if-count_above.false) c.head_bytes-at.ensures)
      | else-turns w ↦
          subst (Counting (way_of c.args.way) c.args.s.now next) (sym w.turned-is) (count_kept_on (way_of c.args.way) c.args.s.now c.loop-at.invariant c.loop-at-test.true (sym c.turns.ensures ∙ w.if-turns.false) c.head_bytes-at.ensures)
    ]

pub returns : goal.returns
returns c = count_ends (way_of c.args.way) c.args.s.now c.loop-at.invariant c.loop-at-test.false
