-- `compose::member_step` meets its contract. Assumes nothing.
use Rattle.util.proofs.Told.{handed_on}
use mathlib.Core.Path.{sym, ap, ◌∙◌}
use Rattle.util_defs.proofs.Tables.{told_by}
use Rattle.util.specs.View.{says}
use Rattle.compose_defs.specs.Compose.{member_step}
use Rattle.compose_defs.proofs.Compositions.{step_on, step_off}
use Rattle.compose.proofs.member_step.Goals as goal

pub returns-then-at_odds : goal.returns-then-at_odds
returns-then-at_odds g c = sym (ap (member_step g.W.Steps.bits c.args.heed (g.W.Steps.number c.args.repr_packed) (g.W.Steps.layout c.args.l)) (told_by (says g.W.Steps.layout) c.decode.ensures c.in_ok-field.was) ∙ step_off g.W.Steps.bits c.args.heed (g.W.Steps.number c.args.repr_packed) (g.W.Steps.layout c.args.l) (g.W.Steps.layout c.in_ok-field.field) (rw (g.met.W.Steps.marked c.in_ok-field.field, sym c.wide.ensures) (sym c.at_odds.ensures ∙ c.if-at_odds.true)))

pub returns-else-at_odds : goal.returns-else-at_odds
returns-else-at_odds g c = c.extend.ensures ∙ sym (ap (member_step g.W.Steps.bits c.args.heed (g.W.Steps.number c.args.repr_packed) (g.W.Steps.layout c.args.l)) (told_by (says g.W.Steps.layout) c.decode.ensures c.in_ok-field.was) ∙ step_on g.W.Steps.bits c.args.heed (g.W.Steps.number c.args.repr_packed) (g.W.Steps.layout c.args.l) (g.W.Steps.layout c.in_ok-field.field) (rw (g.met.W.Steps.marked c.in_ok-field.field, sym c.wide.ensures) (sym c.at_odds.ensures ∙ c.if-at_odds.false)))

pub returns-in_err-field : goal.returns-in_err-field
returns-in_err-field g c = handed_on _ c.from_residual.result _ c.from_residual.ensures.1 (sym (ap (member_step g.W.Steps.bits c.args.heed (g.W.Steps.number c.args.repr_packed) (g.W.Steps.layout c.args.l)) (told_by (says g.W.Steps.layout) c.decode.ensures c.in_err-field.was)))
