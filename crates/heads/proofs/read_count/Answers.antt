-- `heads::read_count` meets its contract. Assumes nothing.
use mathlib.Core.Path.{◌∙◌}
use native.Mathlib.Omega.{arith}
use Rattle.heads.proofs.Ways.{joined_count, count_short, count_whole}
use Rattle.heads.proofs.read_count.Goals as goal

pub returns-then-s-at-lt-COUNT_BYTES : goal.returns-then-s-at-lt-COUNT_BYTES
returns-then-s-at-lt-COUNT_BYTES c = count_short 4 c.args.s.now c.args.at c.requires (omega (arith, c.if-s-at-lt-COUNT_BYTES.true, c.requires))

pub returns : goal.returns
returns c = count_whole 4 c.args.s.now c.args.at (omega arith) (c.from_le_bytes.ensures ∙ joined_count c.args.s.now c.args.at (omega arith))
