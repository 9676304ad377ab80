-- `extend::extend_onto` meets its contract. Assumes nothing.
use Rattle.util.proofs.Told.{handed_on}
use Rattle.std.proofs.Common.{◌∙◌, arith}
use Rattle.util_defs.proofs.Tables.{told_by, accepted_none}
use Rattle.layout_defs.specs.Layout.{layout_causes, check_for}
use Rattle.layout.specs.View.{layout_of, sized_of, check_says}
use Rattle.layout_defs.proofs.Layouts.{layout_decided}
use Rattle.layout_defs.proofs.Onto.{onto_member, onto_step}
use Rattle.extend.proofs.extend_onto.Goals as goal

pub invariant_of-extend_checked : goal.invariant_of-extend_checked
unfolding check_for
invariant_of-extend_checked c =
    let m = layout_of c.args.field in
    record { accepted = accepted_none (layout_causes 64 m) tt (layout_decided 64 m (omega arith)) (told_by check_says c.check.ensures.answer c.in_ok-check.was) }

pub returns : goal.returns
returns c =
    c.extend_checked.ensures ∙ onto_step 64 (sized_of c.args.own) (layout_of c.args.field) c.args.repr_packed (told_by check_says c.check.ensures.answer c.in_ok-check.was)

pub returns-in_err-check : goal.returns-in_err-check
returns-in_err-check c =
    handed_on _ c.from_residual.result _ c.from_residual.ensures.1 (onto_member 64 (sized_of c.args.own) (layout_of c.args.field) c.args.repr_packed (told_by check_says c.check.ensures.answer c.in_err-check.was))
