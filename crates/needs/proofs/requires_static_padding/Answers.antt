-- `needs::requires_static_padding` meets its contract. Assumes nothing.
use Rattle.util.proofs.Told.{handed_on}
use mathlib.Core.Path.{sym}
use mathlib.Core.Bool.{not}
use native.Mathlib.Omega.{arith}
use Rattle.layout_defs.specs.Layout.{layout_causes, check_for}
use Rattle.padding_defs.specs.Pad.{static_for}
use Rattle.layout.specs.View.{layout_of, check_says}
use Rattle.util_defs.proofs.Tables.{told_by, accepted_as, refused_as}
use Rattle.padding_defs.proofs.Marks.{static_meets}
use Rattle.util_defs.proofs.Refusals.{means}
use Rattle.needs.proofs.requires_static_padding.Goals as goal

pub returns-clause-answer : goal.returns-clause-answer
unfolding static_for check_for
returns-clause-answer c =
    let l = layout_of c.args.layout in sym (accepted_as (layout_causes 64 l) tt (not l.mark) (told_by check_says c.check.ensures.answer c.in_ok-check.was))

pub returns-clause-meaning : goal.returns-clause-meaning
returns-clause-meaning c =
    let l = layout_of c.args.layout in means (static_meets 64 l (omega arith)) (returns-clause-answer c)

pub returns-in_err-check-clause-answer : goal.returns-in_err-check-clause-answer
unfolding static_for check_for
returns-in_err-check-clause-answer c =
    let l = layout_of c.args.layout in handed_on _ c.from_residual.result _ c.from_residual.ensures.1 (sym (refused_as (layout_causes 64 l) tt (not l.mark) (told_by check_says c.check.ensures.answer c.in_err-check.was)))

pub returns-in_err-check-clause-meaning : goal.returns-in_err-check-clause-meaning
returns-in_err-check-clause-meaning c =
    let l = layout_of c.args.layout in means (static_meets 64 l (omega arith)) (returns-in_err-check-clause-answer c)
