-- `steps32::pad_within` meets its contract. Assumes nothing.
use Rattle.util.proofs.Told.{handed_on}
use mathlib.Core.Path.{sym, ap, ◌∙◌}
use mathlib.Core.Bool.{Bool, cond}
use Rattle.util_defs.specs.Refusal.{answered, refused}
use Rattle.util_defs.proofs.Tables.{told_by}
use Rattle.layout.specs.View.{layout_of, layout_says}
use Rattle.widths_layouts_defs.specs.Within.{pad_within}
use Rattle.steps32.proofs.pad_within.Goals as goal

pub returns-then-closed_within : goal.returns-then-closed_within
returns-then-closed_within c =
    sym (ap (pad_within c.args.max) (told_by layout_says c.pad_to_align.ensures.answer c.in_ok-padded.was)
    ∙ ap (λ (b : Bool). cond b (answered (layout_of c.in_ok-padded.padded)) (refused 8)) (sym c.closed_within.ensures ∙ c.if-closed_within.true))

pub returns-else-closed_within : goal.returns-else-closed_within
returns-else-closed_within c =
    sym (ap (pad_within c.args.max) (told_by layout_says c.pad_to_align.ensures.answer c.in_ok-padded.was)
    ∙ ap (λ (b : Bool). cond b (answered (layout_of c.in_ok-padded.padded)) (refused 8)) (sym c.closed_within.ensures ∙ c.if-closed_within.false))

pub returns-in_err-padded : goal.returns-in_err-padded
returns-in_err-padded c = handed_on _ c.from_residual.result _ c.from_residual.ensures.1 (ap (pad_within c.args.max) (sym (told_by layout_says c.pad_to_align.ensures.answer c.in_err-padded.was)))
