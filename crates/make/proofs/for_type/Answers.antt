-- `make::for_type` meets its contract. Assumes nothing.
use mathlib.Core.Bool.{false}
use Rattle.make.proofs.Made.{type_meets}
use Rattle.util_defs.proofs.Refusals.{means}
use Rattle.make.proofs.for_type.Goals as goal

pub returns-clause-answer : goal.returns-clause-answer
returns-clause-answer c = c.for_marked_type.ensures

pub returns-clause-meaning : goal.returns-clause-meaning
returns-clause-meaning c = means (type_meets 64 false c.args.size c.args.align c.ranges.align.fits) (returns-clause-answer c)
