-- `needs::requires_dynamic_padding` meets its contract. Assumes nothing.
use Rattle.util.proofs.Told.{handed_on}
use mathlib.Core.Path.{sym, ◌∙◌}
use native.Mathlib.Omega.{arith}
use Rattle.layout_defs.specs.Layout.{layout_causes, check_for}
use Rattle.padding_defs.specs.Pad.{dynamic_padding, dynamic_for}
use Rattle.layout.specs.View.{layout_of, check_says}
use Rattle.util_defs.proofs.Tables.{told_by, accepted_as, refused_as, accepted_none}
use Rattle.layout_defs.proofs.Layouts.{layout_decided}
use Rattle.padding_defs.proofs.Marks.{dynamic_meets}
use Rattle.util_defs.proofs.Refusals.{means}
use Rattle.needs.proofs.requires_dynamic_padding.Goals as goal

pub invariant_of-dynamic_padding : goal.invariant_of-dynamic_padding
unfolding check_for
invariant_of-dynamic_padding c =
    let l = layout_of c.args.layout in
    record { accepted = accepted_none (layout_causes 64 l) tt (layout_decided 64 l (omega arith)) (told_by check_says c.check.ensures.answer c.in_ok-check.was) }

pub returns-clause-answer : goal.returns-clause-answer
unfolding dynamic_for check_for
returns-clause-answer c =
    let l = layout_of c.args.layout in c.dynamic_padding.ensures ∙ sym (accepted_as (layout_causes 64 l) tt (dynamic_padding 64 l.info) (told_by check_says c.check.ensures.answer c.in_ok-check.was))

pub returns-clause-meaning : goal.returns-clause-meaning
returns-clause-meaning c =
    let l = layout_of c.args.layout in means (dynamic_meets 64 l (omega arith)) (returns-clause-answer c)

pub returns-in_err-check-clause-answer : goal.returns-in_err-check-clause-answer
unfolding dynamic_for check_for
returns-in_err-check-clause-answer c =
    let l = layout_of c.args.layout in handed_on _ c.from_residual.result _ c.from_residual.ensures.1 (sym (refused_as (layout_causes 64 l) tt (dynamic_padding 64 l.info) (told_by check_says c.check.ensures.answer c.in_err-check.was)))

pub returns-in_err-check-clause-meaning : goal.returns-in_err-check-clause-meaning
returns-in_err-check-clause-meaning c =
    let l = layout_of c.args.layout in means (dynamic_meets 64 l (omega arith)) (returns-in_err-check-clause-answer c)
