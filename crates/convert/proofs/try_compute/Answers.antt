-- `convert::try_compute` meets its contract. Assumes nothing.
use Rattle.util.proofs.Told.{handed_on}
use mathlib.Core.Path.{refl, sym, ◌∙◌}
use mathlib.Core.List.{◌++◌}
use lib.Dec.{lit<}
use native.Mathlib.Omega.{arith}
use Rattle.util_defs.proofs.Tables.{told_by, apart, refused_first, accepted_first, accepted_none}
use Rattle.shift_defs.specs.Mode.{comparison_of}
use Rattle.shift.specs.View.{mode_of}
use Rattle.layout_defs.specs.Layout.{layout_causes, check_for}
use Rattle.layout.specs.View.{layout_of, check_says}
use Rattle.layout_defs.proofs.Layouts.{layout_decided}
use Rattle.layout.proofs.Told.{held_accepted}
use Rattle.convert_defs.specs.Convert.{params_of, compute_for}
use Rattle.convert_defs.specs.Reasons.{conversion_causes}
use Rattle.convert_defs.proofs.Conversions.{compute_meets}
use Rattle.util_defs.proofs.Refusals.{means}
use Rattle.convert.proofs.try_compute.Goals as goal

pub invariant_of-src : goal.invariant_of-src
unfolding check_for
invariant_of-src c =
    let s = layout_of c.args.src_layout in
    record { accepted = accepted_none (layout_causes 64 s) tt (layout_decided 64 s (omega arith)) (told_by check_says c.check.ensures.answer c.in_ok-check.was) }

pub invariant_of-dst : goal.invariant_of-dst
unfolding check_for
invariant_of-dst c =
    let t = layout_of c.args.dst_layout in
    record { accepted = accepted_none (layout_causes 64 t) tt (layout_decided 64 t (omega arith)) (told_by check_says c.check-2.ensures.answer c.in_ok-check-2.was) }

pub returns-clause-answer : goal.returns-clause-answer
unfolding compute_for check_for
returns-clause-answer c =
    let s = layout_of c.args.src_layout in
    let t = layout_of c.args.dst_layout in
    let ds = conversion_causes 64 (comparison_of 64 (mode_of c.args.mode)) s t in
    let q = params_of 64 (comparison_of 64 (mode_of c.args.mode)) s.info t t.info in
    c.compute.ensures
    ∙ sym (accepted_first (layout_causes 64 s) (layout_causes 64 t ++ ds) tt q (told_by check_says c.check.ensures.answer c.in_ok-check.was) ∙ accepted_first (layout_causes 64 t) ds tt q (told_by check_says c.check-2.ensures.answer c.in_ok-check-2.was))

pub returns-clause-meaning : goal.returns-clause-meaning
returns-clause-meaning c =
    let s = layout_of c.args.src_layout in
    let t = layout_of c.args.dst_layout in
    let ds = conversion_causes 64 (comparison_of 64 (mode_of c.args.mode)) s t in
    let q = params_of 64 (comparison_of 64 (mode_of c.args.mode)) s.info t t.info in
    let m = compute_meets 64 (comparison_of 64 (mode_of c.args.mode)) s t (omega arith) (omega arith) (lit< tt) in means m (returns-clause-answer c)

pub returns-clause-fits : goal.returns-clause-fits
unfolding compute_for check_for
returns-clause-fits c =
    let s = layout_of c.args.src_layout in
    let t = layout_of c.args.dst_layout in
    let q = params_of 64 (comparison_of 64 (mode_of c.args.mode)) s.info t t.info in
    λ q e. (held_accepted c.check.result c.check.ensures.meaning c.in_ok-check.was, held_accepted c.check-2.result c.check-2.ensures.meaning c.in_ok-check-2.was)

pub returns-in_err-check-2-clause-answer : goal.returns-in_err-check-2-clause-answer
unfolding compute_for check_for
returns-in_err-check-2-clause-answer c =
    let s = layout_of c.args.src_layout in
    let t = layout_of c.args.dst_layout in
    let ds = conversion_causes 64 (comparison_of 64 (mode_of c.args.mode)) s t in
    let q = params_of 64 (comparison_of 64 (mode_of c.args.mode)) s.info t t.info in
    handed_on _ c.from_residual-in_err-check-2.result _ c.from_residual-in_err-check-2.ensures.1 (sym (accepted_first (layout_causes 64 s) (layout_causes 64 t ++ ds) tt q (told_by check_says c.check.ensures.answer c.in_ok-check.was) ∙ refused_first (layout_causes 64 t) ds tt q (told_by check_says c.check-2.ensures.answer c.in_err-check-2.was)))

pub returns-in_err-check-2-clause-meaning : goal.returns-in_err-check-2-clause-meaning
returns-in_err-check-2-clause-meaning c =
    let s = layout_of c.args.src_layout in
    let t = layout_of c.args.dst_layout in
    let ds = conversion_causes 64 (comparison_of 64 (mode_of c.args.mode)) s t in
    let q = params_of 64 (comparison_of 64 (mode_of c.args.mode)) s.info t t.info in
    let m = compute_meets 64 (comparison_of 64 (mode_of c.args.mode)) s t (omega arith) (omega arith) (lit< tt) in means m (returns-in_err-check-2-clause-answer c)

pub returns-in_err-check-2-clause-fits : goal.returns-in_err-check-2-clause-fits
unfolding compute_for check_for
returns-in_err-check-2-clause-fits c =
    let s = layout_of c.args.src_layout in
    let t = layout_of c.args.dst_layout in
    let q = params_of 64 (comparison_of 64 (mode_of c.args.mode)) s.info t t.info in
    (λ q e. absurd (apart (sym (handed_on _ c.from_residual-in_err-check-2.result _ c.from_residual-in_err-check-2.ensures.1 refl) ∙ e)))

pub returns-in_err-check-clause-answer : goal.returns-in_err-check-clause-answer
unfolding compute_for check_for
returns-in_err-check-clause-answer c =
    let s = layout_of c.args.src_layout in
    let t = layout_of c.args.dst_layout in
    let ds = conversion_causes 64 (comparison_of 64 (mode_of c.args.mode)) s t in
    let q = params_of 64 (comparison_of 64 (mode_of c.args.mode)) s.info t t.info in
    handed_on _ c.from_residual.result _ c.from_residual.ensures.1 (sym (refused_first (layout_causes 64 s) (layout_causes 64 t ++ ds) tt q (told_by check_says c.check.ensures.answer c.in_err-check.was)))

pub returns-in_err-check-clause-meaning : goal.returns-in_err-check-clause-meaning
returns-in_err-check-clause-meaning c =
    let s = layout_of c.args.src_layout in
    let t = layout_of c.args.dst_layout in
    let ds = conversion_causes 64 (comparison_of 64 (mode_of c.args.mode)) s t in
    let q = params_of 64 (comparison_of 64 (mode_of c.args.mode)) s.info t t.info in
    let m = compute_meets 64 (comparison_of 64 (mode_of c.args.mode)) s t (omega arith) (omega arith) (lit< tt) in means m (returns-in_err-check-clause-answer c)

pub returns-in_err-check-clause-fits : goal.returns-in_err-check-clause-fits
unfolding compute_for check_for
returns-in_err-check-clause-fits c =
    let s = layout_of c.args.src_layout in
    let t = layout_of c.args.dst_layout in
    let q = params_of 64 (comparison_of 64 (mode_of c.args.mode)) s.info t t.info in
    (λ q e. absurd (apart (sym (handed_on _ c.from_residual.result _ c.from_residual.ensures.1 refl) ∙ e)))
