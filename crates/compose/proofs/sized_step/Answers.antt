-- `compose::sized_step` meets its contract. Assumes nothing.
use Rattle.util.proofs.Told.{handed_on}
use mathlib.Core.Path.{sym, ap, ◌∙◌}
use Rattle.util_defs.proofs.Tables.{told_by}
use Rattle.layout.specs.View.{sized_of, layout_says}
use Rattle.compose_defs.specs.Compose.{member_step}
use Rattle.compose.proofs.sized_step.Goals as goal

pub returns-in-Sized : goal.returns-in-Sized
returns-in-Sized c = c.step_of_sized.ensures ∙ sym (ap (member_step 64 c.args.heed c.args.repr_packed (sized_of c.args.own)) (told_by layout_says c.decode.ensures.answer c.in_ok-field.was))

pub returns-in-SliceDst : goal.returns-in-SliceDst
returns-in-SliceDst c = c.step_of_trailing.ensures ∙ sym (ap (member_step 64 c.args.heed c.args.repr_packed (sized_of c.args.own)) (told_by layout_says c.decode.ensures.answer c.in_ok-field.was))

pub returns-in_err-field : goal.returns-in_err-field
returns-in_err-field c = handed_on _ c.from_residual.result _ c.from_residual.ensures.1 (sym (ap (member_step 64 c.args.heed c.args.repr_packed (sized_of c.args.own)) (told_by layout_says c.decode.ensures.answer c.in_err-field.was)))
