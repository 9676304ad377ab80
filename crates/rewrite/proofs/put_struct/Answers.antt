-- `rewrite::put_struct` meets its contract. Assumes nothing.
use mathlib.Core.Path.{ap}
use native.Mathlib.Omega.{arith}
use Rattle.rewrite.specs.View.{way_of}
use Rattle.rewrite.proofs.Ways.{put_long, put_short_lem, long_room, short_room}
use Rattle.rewrite.proofs.put_struct.Goals as goal

pub put_tagged-requires : goal.put_tagged-requires
put_tagged-requires c = (c.requires.0, omega (arith, long_room c.args.s.now c.args.at (ap way_of c.in-Longer.is), c.requires.1))

pub bounds-out-to : goal.bounds-out-to
bounds-out-to c = omega (arith, long_room c.args.s.now c.args.at (ap way_of c.in-Longer.is), c.requires.1, c.put_tagged.auto)

pub returns-in-Longer : goal.returns-in-Longer
returns-in-Longer c = put_long c.args.s.now c.args.out.now c.args.at c.args.to (ap way_of c.in-Longer.is) c.put_tagged.ensures

pub put_tagged-requires-in-Shorter : goal.put_tagged-requires-in-Shorter
put_tagged-requires-in-Shorter c = (c.requires.0, omega (arith, short_room c.args.s.now c.args.at (ap way_of c.in-Shorter.is), c.requires.1))

pub returns-in-Shorter : goal.returns-in-Shorter
returns-in-Shorter c = put_short_lem c.args.s.now c.args.out.now c.args.at c.args.to (ap way_of c.in-Shorter.is) c.put_tagged-in-Shorter.ensures
