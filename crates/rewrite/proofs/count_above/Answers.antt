-- `rewrite::count_above` meets its contract. Assumes nothing.
use mathlib.Core.Path.{ap}
use native.Mathlib.Omega.{arith}
use Rattle.rewrite.specs.View.{way_of, head_at}
use Rattle.rewrite.proofs.Ways.{five_room, above_never, above_is}
use Rattle.rewrite.proofs.count_above.Goals as goal

pub returns-in-Longer : goal.returns-in-Longer
returns-in-Longer c = above_never (head_at c.args.s.now c.args.at) (ap way_of c.in-Longer.is)

pub bounds-s-at : goal.bounds-s-at
bounds-s-at c = omega (arith, five_room c.args.s.now c.args.at (ap way_of c.in-Shorter.is) c.requires.0 c.requires.1)

pub bounds-s-at-in-Shorter : goal.bounds-s-at-in-Shorter
bounds-s-at-in-Shorter c = omega (arith, five_room c.args.s.now c.args.at (ap way_of c.in-Shorter.is) c.requires.0 c.requires.1)

pub returns-in-Shorter : goal.returns-in-Shorter
returns-in-Shorter c = above_is c.args.s.now c.args.at (ap way_of c.in-Shorter.is) c.requires.0 c.requires.1 c.from_le_bytes.ensures
