-- `rewrite::put_head` meets its contract. Assumes nothing.
use mathlib.Core.Path.{sym, ◌∙◌}
use lib.ListN.{length}
use Rattle.rewrite.specs.View.{way_of}
use Rattle.rewrite.proofs.Ways.{turned_room, puts_turned, kept_room, puts_kept}
use Rattle.rewrite.proofs.put_head.Goals as goal

pub put_struct-requires : goal.put_struct-requires
put_struct-requires c = turned_room (way_of c.args.way) c.args.s.now c.args.out.now c.args.at c.args.to c.requires.0 (sym c.turns.ensures ∙ c.if-turns.true) (length c.args.out.now) c.requires.1

pub returns-then-turns : goal.returns-then-turns
returns-then-turns c = puts_turned (way_of c.args.way) c.args.s.now c.args.out.now c.args.at c.args.to c.requires.0 (sym c.turns.ensures ∙ c.if-turns.true) c.put_struct.ensures

pub copy-requires : goal.copy-requires
copy-requires c = kept_room (way_of c.args.way) c.args.s.now c.args.out.now c.args.at c.args.to c.requires.0 (sym c.turns.ensures ∙ c.if-turns.false) c.head_bytes-count.ensures (length c.args.out.now) c.requires.1

pub returns : goal.returns
returns c = puts_kept (way_of c.args.way) c.args.s.now c.args.out.now c.args.at c.args.to c.requires.0 (sym c.turns.ensures ∙ c.if-turns.false) c.head_bytes-count.ensures c.copy.ensures
