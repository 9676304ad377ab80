-- `extend::after_trailing` meets its contract. Assumes nothing.
use Rattle.std.proofs.Common.{◌≡◌, sym, ◌∙◌}
use Rattle.util_defs.specs.Refusal.{refused, unless}
use Rattle.util_defs.proofs.Refusals.{told_true}
use Rattle.util_defs.proofs.Tables.{told_by}
use Rattle.layout_defs.specs.Extend.{extended, step_causes}
use Rattle.layout.specs.View.{layout_of, check_says}
use Rattle.layout_defs.proofs.Steps.{tells_trailing, extend_own, extend_member, extend_step}
use Rattle.extend.proofs.after_trailing.Goals as goal

pub returns-then-bad_packing : goal.returns-then-bad_packing
unfolding unless
returns-then-bad_packing c = let l = layout_of c.args.own in
    let m = layout_of c.args.field in
    let s : refused 5 ≡ unless (step_causes 64 l m c.args.repr_packed) (extended l m c.args.repr_packed) = simp (sym c.bad_packing.ensures ∙ c.if-bad_packing.true) in
    s ∙ extend_step 64 l m c.args.repr_packed (told_by check_says c.check.ensures.answer c.in-Ok.is) (told_by check_says c.check-in-Ok.ensures.answer c.in-Ok-check.is)

pub returns-then-above_max : goal.returns-then-above_max
unfolding unless
returns-then-above_max c = let l = layout_of c.args.own in
    let m = layout_of c.args.field in
    let s : refused 6 ≡ unless (step_causes 64 l m c.args.repr_packed) (extended l m c.args.repr_packed) = simp (sym c.bad_packing.ensures ∙ c.if-bad_packing.false, sym c.above_max.ensures ∙ c.if-above_max.true) in
    s ∙ extend_step 64 l m c.args.repr_packed (told_by check_says c.check.ensures.answer c.in-Ok.is) (told_by check_says c.check-in-Ok.ensures.answer c.in-Ok-check.is)

pub returns-else-above_max : goal.returns-else-above_max
unfolding unless
returns-else-above_max c = let l = layout_of c.args.own in
    let m = layout_of c.args.field in
    let s : refused 7 ≡ unless (step_causes 64 l m c.args.repr_packed) (extended l m c.args.repr_packed) = simp (sym c.bad_packing.ensures ∙ c.if-bad_packing.false, sym c.above_max.ensures ∙ c.if-above_max.false, told_true (tells_trailing l.info) c.requires) in
    s ∙ extend_step 64 l m c.args.repr_packed (told_by check_says c.check.ensures.answer c.in-Ok.is) (told_by check_says c.check-in-Ok.ensures.answer c.in-Ok-check.is)

pub returns-in-Err-check : goal.returns-in-Err-check
returns-in-Err-check c = extend_member 64 (layout_of c.args.own) (layout_of c.args.field) c.args.repr_packed (told_by check_says c.check.ensures.answer c.in-Ok.is) (told_by check_says c.check-in-Ok.ensures.answer c.in-Err-check.is)

pub returns-in-Err : goal.returns-in-Err
returns-in-Err c = extend_own 64 (layout_of c.args.own) (layout_of c.args.field) c.args.repr_packed (told_by check_says c.check.ensures.answer c.in-Err.is)
