-- `listing_line::compose_list` meets its contract. Assumes nothing.
use mathlib.Core.Path.{sym, ◌∙◌}
use Rattle.listing_line.proofs.Lines.{list_long, list_taken}
use Rattle.listing_line.proofs.compose_list.Goals as goal

pub returns-then-list-gt-MAX_LIST_BYTES : goal.returns-then-list-gt-MAX_LIST_BYTES
returns-then-list-gt-MAX_LIST_BYTES g c = sym (list_long g.W.Listed.bits c.args.list.now c.if-list-gt-MAX_LIST_BYTES.true)

pub returns-else-list-gt-MAX_LIST_BYTES : goal.returns-else-list-gt-MAX_LIST_BYTES
returns-else-list-gt-MAX_LIST_BYTES g c = c.compose.ensures ∙ sym (list_taken g.W.Listed.bits c.args.list.now c.if-list-gt-MAX_LIST_BYTES.false)
