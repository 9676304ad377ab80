-- `shift::offset_delta_elems` meets its contract. Assumes nothing.
use Rattle.util.proofs.Told.{handed_on}
use mathlib.Core.Path.{sym, ap, ◌∙◌}
use lib.Dec.{lit<}
use native.Mathlib.Omega.{arith}
use Rattle.util_defs.specs.Refusal.{answered}
use Rattle.util_defs.proofs.Tables.{told_by, refused_as, accepted_as, refused_first, accepted_first, accepted_none}
use Rattle.layout_defs.specs.Layout.{layout_causes, check_for}
use Rattle.layout.specs.View.{layout_of, check_says}
use Rattle.layout_defs.proofs.Layouts.{layout_decided}
use Rattle.shift_defs.specs.Shift.{shift_between, shift_for}
use Rattle.shift_defs.proofs.Shifts.{shift_meets}
use Rattle.shift_defs.specs.Mode.{comparison_of}
use Rattle.shift.specs.View.{mode_of}
use Rattle.util_defs.proofs.Refusals.{means}
use Rattle.shift.proofs.offset_delta_elems.Goals as goal

pub invariant_of-src : goal.invariant_of-src
unfolding check_for
invariant_of-src c =
    let s = layout_of c.args.src_layout in
    record { accepted = accepted_none (layout_causes 64 s) tt (layout_decided 64 s (omega arith)) (told_by check_says c.check.ensures.answer c.in_ok-check.was) }

pub invariant_of-dst : goal.invariant_of-dst
unfolding check_for
invariant_of-dst c =
    let t = layout_of c.args.dst_layout in
    record { accepted = accepted_none (layout_causes 64 t) tt (layout_decided 64 t (omega arith)) (told_by check_says c.check-2.ensures.answer c.in_ok-check-2.was) }

pub returns-clause-answer : goal.returns-clause-answer
unfolding shift_for check_for
returns-clause-answer c =
    let s = layout_of c.args.src_layout in
    let t = layout_of c.args.dst_layout in
    let d = shift_between 64 (comparison_of 64 (mode_of c.args.mode)) s.info t t.info in ap answered c.checked_delta_elems.ensures
    ∙ sym (accepted_first (layout_causes 64 s) (layout_causes 64 t) tt d (told_by check_says c.check.ensures.answer c.in_ok-check.was) ∙ accepted_as (layout_causes 64 t) tt d (told_by check_says c.check-2.ensures.answer c.in_ok-check-2.was))

pub returns-clause-meaning : goal.returns-clause-meaning
returns-clause-meaning c =
    let s = layout_of c.args.src_layout in
    let t = layout_of c.args.dst_layout in
    let d = shift_between 64 (comparison_of 64 (mode_of c.args.mode)) s.info t t.info in means (shift_meets 64 (comparison_of 64 (mode_of c.args.mode)) s t (omega arith) (omega arith) (lit< tt)) (returns-clause-answer c)

pub returns-in_err-check-2-clause-answer : goal.returns-in_err-check-2-clause-answer
unfolding shift_for check_for
returns-in_err-check-2-clause-answer c =
    let s = layout_of c.args.src_layout in
    let t = layout_of c.args.dst_layout in
    let d = shift_between 64 (comparison_of 64 (mode_of c.args.mode)) s.info t t.info in handed_on _ c.from_residual-in_err-check-2.result _ c.from_residual-in_err-check-2.ensures.1 (sym (accepted_first (layout_causes 64 s) (layout_causes 64 t) tt d (told_by check_says c.check.ensures.answer c.in_ok-check.was) ∙ refused_as (layout_causes 64 t) tt d (told_by check_says c.check-2.ensures.answer c.in_err-check-2.was)))

pub returns-in_err-check-2-clause-meaning : goal.returns-in_err-check-2-clause-meaning
returns-in_err-check-2-clause-meaning c =
    let s = layout_of c.args.src_layout in
    let t = layout_of c.args.dst_layout in
    let d = shift_between 64 (comparison_of 64 (mode_of c.args.mode)) s.info t t.info in means (shift_meets 64 (comparison_of 64 (mode_of c.args.mode)) s t (omega arith) (omega arith) (lit< tt)) (returns-in_err-check-2-clause-answer c)

pub returns-in_err-check-clause-answer : goal.returns-in_err-check-clause-answer
unfolding shift_for check_for
returns-in_err-check-clause-answer c =
    let s = layout_of c.args.src_layout in
    let t = layout_of c.args.dst_layout in
    let d = shift_between 64 (comparison_of 64 (mode_of c.args.mode)) s.info t t.info in handed_on _ c.from_residual.result _ c.from_residual.ensures.1 (sym (refused_first (layout_causes 64 s) (layout_causes 64 t) tt d (told_by check_says c.check.ensures.answer c.in_err-check.was)))

pub returns-in_err-check-clause-meaning : goal.returns-in_err-check-clause-meaning
returns-in_err-check-clause-meaning c =
    let s = layout_of c.args.src_layout in
    let t = layout_of c.args.dst_layout in
    let d = shift_between 64 (comparison_of 64 (mode_of c.args.mode)) s.info t t.info in means (shift_meets 64 (comparison_of 64 (mode_of c.args.mode)) s t (omega arith) (omega arith) (lit< tt)) (returns-in_err-check-clause-answer c)
