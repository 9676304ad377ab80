-- `rewrite::copy` meets its contract. Assumes nothing.
use mathlib.Core.Path.{◌≡◌, refl, ap, ◌∙◌}
use Prim.Native.Nat.{ℕ}
use native.Mathlib.Omega.{arith}
use lib.ListN.{length, take, drop}
use lib.Seq.{sets, length-sets}
use Rattle.rewrite.proofs.Ways.{copied}
use Rattle.rewrite.proofs.copy.Goals as goal

pub loop-i-init : goal.loop-i-init
loop-i-init c = refl

pub bounds-s-at : goal.bounds-s-at
bounds-s-at c = omega (arith, c.loop-i-test.true, c.requires.0)

pub bounds-out-to : goal.bounds-out-to
bounds-out-to c = omega (arith, c.loop-i-test.true, c.requires.1, ap length c.loop-i.invariant, length-sets c.args.out.now c.args.to (take c.loop-i.i (drop c.args.at c.args.s.now)))

pub loop-i-preserved : goal.loop-i-preserved
loop-i-preserved c = copied c.args.s.now c.args.out.now c.loop-i.out c.args.at c.args.to c.loop-i.i (omega (arith, c.loop-i-test.true, c.requires.0)) (omega (arith, c.loop-i-test.true, c.requires.1)) c.loop-i.invariant

pub shape_of-out : goal.shape_of-out
shape_of-out c = ap length c.loop-i.invariant ∙ length-sets c.args.out.now c.args.to (take c.loop-i.i (drop c.args.at c.args.s.now))

pub returns : goal.returns
returns c = let e : c.loop-i.i ≡ c.args.count = omega arith in c.loop-i.invariant ∙ ap (λ (n : ℕ). sets c.args.out.now c.args.to (take n (drop c.args.at c.args.s.now))) e
