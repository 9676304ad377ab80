-- `cases::write_all` meets its contract. Assumes nothing.
use mathlib.Core.Path.{◌≡◌, refl, ap, ◌∙◌}
use Prim.Native.Nat.{ℕ, suc, ◌+◌, ◌-◌}
use lib.Seq.{sets}
use native.Mathlib.Omega.{arith}
use Rattle.cases.proofs.Written.{bytes_below, room_below, next_below}
use Rattle.cases.proofs.write_all.Goals as goal

pub loop-count-init : goal.loop-count-init
loop-count-init c = record { within = omega arith; begins = refl; bytes = refl; kept = refl }

pub overflow_add-count : goal.overflow_add-count
overflow_add-count c = omega (arith, c.loop-count-test.true, c.requires.0)

pub grow-at-requires : goal.grow-at-requires
grow-at-requires c =
    room_below c.args.longest c.args.out.now c.loop-count.out c.loop-count.at c.loop-count.count c.loop-count.invariant c.loop-count-test.true c.requires.0 c.requires.1

pub loop-count-smaller : goal.loop-count-smaller
loop-count-smaller c = omega (arith, c.loop-count-test.true)

pub loop-count-preserved : goal.loop-count-preserved
loop-count-preserved c =
    next_below c.args.longest c.args.out.now c.loop-count.out c.loop-count.at c.loop-count.count c.loop-count.invariant c.loop-count-test.true c.requires.0 c.requires.1 c.grow-at.new.out c.grow-at.result c.grow-at.ensures.0 c.grow-at.ensures.1 c.grow-at.auto.out

pub shape_of-out : goal.shape_of-out
shape_of-out c = c.loop-count.invariant.kept

pub returns : goal.returns
returns c =
    let e : c.loop-count.count ≡ suc c.args.longest = omega (arith, c.loop-count.invariant.within, c.loop-count-test.false) in
    c.loop-count.invariant.bytes ∙ ap (λ (n : ℕ). sets c.args.out.now 0 (bytes_below n)) e

pub returns-2 : goal.returns-2
returns-2 c =
    let below = next_below c.args.longest c.args.out.now c.loop-count.out c.loop-count.at c.loop-count.count c.loop-count.invariant c.loop-count-test.true c.requires.0 c.requires.1 c.grow-at.new.out c.grow-at.result c.grow-at.ensures.0 c.grow-at.ensures.1 c.grow-at.auto.out in
    let e : c.loop-count.count + 1 ≡ suc c.args.longest = omega arith in
    below.bytes ∙ ap (λ (n : ℕ). sets c.args.out.now 0 (bytes_below n)) e
