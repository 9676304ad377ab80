-- The loops of the function.
use mathlib.Core.Path.{◌≡◌}
use Rattle.gcd_defs.specs.Gcd.{gcd}
use Rattle.gcd.proofs.greatest_common_divisor.Given as goal

abbrev pub invariant-loop-y : goal.invariant-loop-y
invariant-loop-y l = gcd l.x l.y ≡ gcd l.a l.b

abbrev pub decreases-loop-y : goal.decreases-loop-y
decreases-loop-y l = l.y
