-- `heads::read_members` meets its contract. Assumes nothing.
use mathlib.Core.Path.{sym, ap, ◌∙◌}
use Rattle.heads.specs.View.{number_read}
use Rattle.heads.proofs.Ways.{members_one, members_two}
use Rattle.heads.proofs.read_members.Goals as goal

pub returns-in-One : goal.returns-in-One
returns-in-One c = rw c.in-One.is (members_one c.args.s.now c.args.at (sym c.byte_at.ensures ∙ ap number_read c.in_ok-low.was))

pub returns-in_ok-high-in-Two : goal.returns-in_ok-high-in-Two
returns-in_ok-high-in-Two c = rw c.in-Two.is (members_two c.args.s.now c.args.at (sym c.byte_at.ensures ∙ ap number_read c.in_ok-low.was) (sym c.byte_at-in-Two.ensures ∙ ap number_read c.in_ok-high-in-Two.was) c.from_le_bytes.ensures)
