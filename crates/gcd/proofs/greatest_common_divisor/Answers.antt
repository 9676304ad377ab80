-- `gcd::greatest_common_divisor` meets its contract. Assumes nothing.
use mathlib.Core.Path.{◌≡◌, refl, sym, subst, ap, ◌∙◌}
use Prim.Native.Nat.{◌<◌}
use native.Mathlib.Nat.{mod-lt}
use native.Mathlib.Omega.{arith}
use Rattle.gcd_defs.specs.Gcd.{GreatestDivisor, gcd}
use Rattle.gcd_defs.proofs.Divisors.{gcd_is, gcd_step, gcd_zero}
use Rattle.gcd.proofs.greatest_common_divisor.Goals as goal

pub loop-y-init : goal.loop-y-init
loop-y-init c = refl

pub loop-y-smaller : goal.loop-y-smaller
loop-y-smaller c = let pos : 0 < c.loop-y.y = omega arith in mod-lt c.loop-y.x pos

pub loop-y-preserved : goal.loop-y-preserved
loop-y-preserved c = gcd_step c.loop-y.x c.loop-y.y ∙ c.loop-y.invariant

pub returns-clause-answer : goal.returns-clause-answer
returns-clause-answer c =
    let x = c.args in
    let z : c.loop-y.y ≡ 0 = omega arith in
    let e : c.loop-y.x ≡ gcd x.a x.b = sym (gcd_zero c.loop-y.x) ∙ ap (gcd c.loop-y.x) (sym z) ∙ c.loop-y.invariant in e

pub returns-clause-meaning : goal.returns-clause-meaning
returns-clause-meaning c =
    let x = c.args in
    let z : c.loop-y.y ≡ 0 = omega arith in
    let e : c.loop-y.x ≡ gcd x.a x.b = sym (gcd_zero c.loop-y.x) ∙ ap (gcd c.loop-y.x) (sym z) ∙ c.loop-y.invariant in subst (GreatestDivisor x.a x.b) (sym e) (gcd_is x.a x.b)
