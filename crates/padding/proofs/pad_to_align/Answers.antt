-- `padding::pad_to_align` meets its contract. Assumes nothing.
use Rattle.util.proofs.Told.{handed_on}
use mathlib.Core.Path.{sym, ◌∙◌}
use mathlib.Core.List.{[], ◌∷◌}
use native.Mathlib.Omega.{arith}
use Rattle.layout_defs.specs.Layout.{layout_causes, check_for}
use Rattle.layout_defs.specs.Extend.{rounding_passes}
use Rattle.padding_defs.specs.Pad.{padded, padding_needs, pad_for}
use Rattle.layout.specs.View.{layout_of, check_says}
use Rattle.util_defs.proofs.Tables.{told_by, refused_first, accepted_first, accepted_none}
use Rattle.layout_defs.proofs.Layouts.{layout_decided}
use Rattle.padding_defs.proofs.Padding.{pad_meets}
use Rattle.util_defs.proofs.Refusals.{means}
use Rattle.padding.proofs.pad_to_align.Goals as goal

pub invariant_of-pad_checked : goal.invariant_of-pad_checked
unfolding check_for
invariant_of-pad_checked c =
    let l = layout_of c.args.layout in
    record { accepted = accepted_none (layout_causes 64 l) tt (layout_decided 64 l (omega arith)) (told_by check_says c.check.ensures.answer c.in_ok-check.was) }

pub returns-clause-answer : goal.returns-clause-answer
unfolding pad_for check_for
returns-clause-answer c =
    let l = layout_of c.args.layout in
    let ds = rounding_passes 64 (padding_needs 64 l.align l.info) ∷ [] in c.pad_checked.ensures ∙ sym (accepted_first (layout_causes 64 l) ds tt (padded 64 l) (told_by check_says c.check.ensures.answer c.in_ok-check.was))

pub returns-clause-meaning : goal.returns-clause-meaning
returns-clause-meaning c =
    let l = layout_of c.args.layout in
    let ds = rounding_passes 64 (padding_needs 64 l.align l.info) ∷ [] in means (pad_meets 64 l (omega arith)) (returns-clause-answer c)

pub returns-in_err-check-clause-answer : goal.returns-in_err-check-clause-answer
unfolding pad_for check_for
returns-in_err-check-clause-answer c =
    let l = layout_of c.args.layout in
    let ds = rounding_passes 64 (padding_needs 64 l.align l.info) ∷ [] in handed_on _ c.from_residual.result _ c.from_residual.ensures.1 (sym (refused_first (layout_causes 64 l) ds tt (padded 64 l) (told_by check_says c.check.ensures.answer c.in_err-check.was)))

pub returns-in_err-check-clause-meaning : goal.returns-in_err-check-clause-meaning
returns-in_err-check-clause-meaning c =
    let l = layout_of c.args.layout in
    let ds = rounding_passes 64 (padding_needs 64 l.align l.info) ∷ [] in means (pad_meets 64 l (omega arith)) (returns-in_err-check-clause-answer c)
