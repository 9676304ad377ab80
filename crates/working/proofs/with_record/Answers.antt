-- `working::with_record` meets its contract. Assumes nothing.
use Rattle.util.proofs.Told.{handed_on}
use mathlib.Core.Path.{sym, ap, ◌∙◌}
use Rattle.util_defs.proofs.Tables.{told_by}
use Rattle.util.specs.View.{says}
use Rattle.layout.specs.View.{check_says}
use Rattle.record_defs.specs.Record.{decode_for}
use Rattle.compose_defs.specs.Compose.{member_step, ported}
use Rattle.compose_defs.specs.Typed.{addition_for}
use Rattle.compose_defs.proofs.Typed.{addition_step, addition_off, addition_told}
use Rattle.working.proofs.with_record.Goals as goal

pub returns : goal.returns
returns g c =
    let told = addition_told g.W.Steps.bits (g.W.Steps.number c.args.repr_packed) (g.W.Steps.layout c.args.own) (decode_for g.W.Steps.bits c.args.member.now)
    (c.with_member.ensures.answer ∙ ap (addition_for g.W.Steps.bits (g.W.Steps.number c.args.repr_packed) (g.W.Steps.layout c.args.own)) (sym (told_by (says g.W.Steps.layout) c.decode.ensures c.in_ok-field.was))) in
    record { answer = told.0; meaning = told.1 }

pub returns-in_err-field : goal.returns-in_err-field
returns-in_err-field g c =
    let told = addition_told g.W.Steps.bits (g.W.Steps.number c.args.repr_packed) (g.W.Steps.layout c.args.own) (decode_for g.W.Steps.bits c.args.member.now)
    (handed_on _ c.from_residual-in_err-field.result _ c.from_residual-in_err-field.ensures.1 (sym (addition_step g.W.Steps.bits (g.W.Steps.number c.args.repr_packed) (g.W.Steps.layout c.args.own) (decode_for g.W.Steps.bits c.args.member.now) (told_by check_says c.check.ensures c.in_ok-check.was) ∙ ap (member_step g.W.Steps.bits ported (g.W.Steps.number c.args.repr_packed) (g.W.Steps.layout c.args.own)) (told_by (says g.W.Steps.layout) c.decode.ensures c.in_err-field.was)))) in
    record { answer = told.0; meaning = told.1 }

pub returns-in_err-check : goal.returns-in_err-check
returns-in_err-check g c =
    let told = addition_told g.W.Steps.bits (g.W.Steps.number c.args.repr_packed) (g.W.Steps.layout c.args.own) (decode_for g.W.Steps.bits c.args.member.now)
    (handed_on _ c.from_residual.result _ c.from_residual.ensures.1 (sym (addition_off g.W.Steps.bits (g.W.Steps.number c.args.repr_packed) (g.W.Steps.layout c.args.own) (decode_for g.W.Steps.bits c.args.member.now) (told_by check_says c.check.ensures c.in_err-check.was)))) in
    record { answer = told.0; meaning = told.1 }
