-- `extend::extend_checked` meets its contract. Assumes nothing.
use Rattle.std.proofs.Common.{◌≡◌, [], ◌∷◌, ℕ, sym, ap, ◌∙◌}
use Rattle.util_defs.specs.Refusal.{refused, unless}
use Rattle.util_defs.proofs.Tables.{told_by, answer_is, accepted_first, refused_first}
use Rattle.util.specs.View.{says}
use Rattle.util.specs.declared.align.Align.{Align}
use Rattle.util.proofs.Told.{handed_on}
use Rattle.layout.specs.View.{layout_of, sized_of}
use Rattle.layout_defs.specs.Extend.{member_align, extended, bad_packing, above_greatest, place_causes}
use Rattle.extend.proofs.extend_checked.Goals as goal

pub returns-in_err-field_align : goal.returns-in_err-field_align
returns-in_err-field_align c =
    let l = sized_of c.args.own in
    let m = layout_of c.args.valid_field.layout in
    let q = c.args.repr_packed in
    let e = told_by (says (λ (a : Align). a.value)) c.packed_align.ensures c.in_err-field_align.was in
    handed_on _ c.from_residual.result _ c.from_residual.ensures.1 (sym (refused_first (bad_packing 64 q ∷ []) (above_greatest l.align m.align q ∷ place_causes 64 l m q) (member_align c.align.result.value q) (extended l m q) e))

pub returns-then-above_max : goal.returns-then-above_max
unfolding unless
returns-then-above_max c =
    let l = sized_of c.args.own in
    let m = layout_of c.args.valid_field.layout in
    let q = c.args.repr_packed in
    let e = told_by (says (λ (a : Align). a.value)) c.packed_align.ensures c.in_ok-field_align.was in
    let s : refused 6 ≡ unless (above_greatest l.align m.align q ∷ place_causes 64 l m q) (extended l m q) = simp (sym c.above_max.ensures ∙ c.if-above_max.true) in
    s ∙ sym (accepted_first (bad_packing 64 q ∷ []) (above_greatest l.align m.align q ∷ place_causes 64 l m q) (member_align c.align.result.value q) (extended l m q) e)

pub returns : goal.returns
unfolding unless
returns c =
    let l = sized_of c.args.own in
    let m = layout_of c.args.valid_field.layout in
    let q = c.args.repr_packed in
    let y = member_align c.align.result.value q in
    let e = told_by (says (λ (a : Align). a.value)) c.packed_align.ensures c.in_ok-field_align.was in
    let s : unless (place_causes 64 l m q) (extended l m q) ≡ unless (above_greatest l.align m.align q ∷ place_causes 64 l m q) (extended l m q) = simp (sym c.above_max.ensures ∙ c.if-above_max.false) in
    c.extend_aligned.ensures q (answer_is (bad_packing 64 q ∷ []) y e ∙ ap (λ (a : ℕ). member_align a q) c.align.ensures)
    ∙ s ∙ sym (accepted_first (bad_packing 64 q ∷ []) (above_greatest l.align m.align q ∷ place_causes 64 l m q) y (extended l m q) e)
