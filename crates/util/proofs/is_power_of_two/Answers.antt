-- `util::is_power_of_two` meets its contract: `tells_mask`. Assumes nothing.
use Rattle.std.proofs.Common.{false, arith}
use Rattle.util_defs.specs.Refusal.{Tells, fails}
use Rattle.util_defs.specs.Power.{PowerOfTwo}
use Rattle.util_defs.proofs.Refusals.{agree}
use Rattle.util_defs.proofs.Powers.{positive, tells_power, tells_mask}
use Rattle.util.proofs.is_power_of_two.Goals as goal

pub returns-then-a-eq0-clause-answer : goal.returns-then-a-eq0-clause-answer
returns-then-a-eq0-clause-answer c =
    let a = c.args.a in
    let t : Tells (PowerOfTwo a) false = fails (λ p. omega (arith, positive p)) in agree t (tells_power 64 a c.ranges.a.fits)

pub returns-then-a-eq0-clause-meaning : goal.returns-then-a-eq0-clause-meaning
returns-then-a-eq0-clause-meaning c =
    let a = c.args.a in
    let t : Tells (PowerOfTwo a) false = fails (λ p. omega (arith, positive p)) in t

pub returns-clause-answer : goal.returns-clause-answer
returns-clause-answer c =
    let a = c.args.a in
    let t = tells_mask 64 a c.ranges.a.fits (omega arith) in agree t (tells_power 64 a c.ranges.a.fits)

pub returns-clause-meaning : goal.returns-clause-meaning
returns-clause-meaning c =
    let a = c.args.a in
    let t = tells_mask 64 a c.ranges.a.fits (omega arith) in t
