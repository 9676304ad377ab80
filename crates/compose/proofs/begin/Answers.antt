-- `compose::begin` meets its contract. Assumes nothing.
use Rattle.util.proofs.Told.{handed_on}
use mathlib.Core.Path.{sym, ◌∙◌}
use Rattle.util_defs.proofs.Tables.{told_by}
use Rattle.util.specs.View.{says}
use Rattle.compose_defs.proofs.Compositions.{begin_own, begin_on, begin_off}
use Rattle.compose.proofs.begin.Goals as goal

pub returns-then-at_odds : goal.returns-then-at_odds
returns-then-at_odds g c = sym (begin_off g.W.Steps.bits c.args.heed (g.W.Steps.number c.args.repr_align) (g.W.Steps.number c.args.repr_packed) (told_by (says g.W.Steps.layout) c.new_zst.ensures c.in_ok-empty.was) (rw (sym c.wide.ensures, sym c.wide-2.ensures) (sym c.at_odds.ensures ∙ c.if-at_odds.true)))

pub returns-else-at_odds : goal.returns-else-at_odds
returns-else-at_odds g c = sym (begin_on g.W.Steps.bits c.args.heed (g.W.Steps.number c.args.repr_align) (g.W.Steps.number c.args.repr_packed) (told_by (says g.W.Steps.layout) c.new_zst.ensures c.in_ok-empty.was) (rw (sym c.wide.ensures, sym c.wide-2.ensures) (sym c.at_odds.ensures ∙ c.if-at_odds.false)))

pub returns-in_err-empty : goal.returns-in_err-empty
returns-in_err-empty g c = handed_on _ c.from_residual.result _ c.from_residual.ensures.1 (sym (begin_own g.W.Steps.bits c.args.heed (g.W.Steps.number c.args.repr_align) (g.W.Steps.number c.args.repr_packed) (told_by (says g.W.Steps.layout) c.new_zst.ensures c.in_err-empty.was)))
