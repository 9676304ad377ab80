-- `placing::extend_at` meets its contract. Assumes nothing.
use Rattle.util.proofs.Told.{handed_on}
use Rattle.std.proofs.Common.{[], ◌∷◌, sym, ◌∙◌}
use Rattle.util_defs.specs.Refusal.{answered}
use Rattle.layout_defs.specs.Extend.{placed_at, member_passes}
use Rattle.layout.specs.View.{layout_of, info_says}
use Rattle.util_defs.proofs.Tables.{told_by, answer_is, accepted_as, refused_as}
use Rattle.placing.proofs.extend_at.Goals as goal

pub returns : goal.returns
returns c =
    let m = layout_of c.args.field in
    let cs = member_passes 64 c.args.place m.info ∷ [] in
    let y = placed_at c.args.place m.info in
    let e = told_by info_says c.place_member.ensures c.in_ok-size_info.was in
    (λ i. answered (record { align = c.max.ensures i; info = answer_is cs y e i; mark = c.step_mark-unpadded.ensures i; modifier = c.either.ensures i })) ∙ sym (accepted_as cs y _ e)

pub returns-in_err-size_info : goal.returns-in_err-size_info
returns-in_err-size_info c =
    let m = layout_of c.args.field in
    let cs = member_passes 64 c.args.place m.info ∷ [] in
    let y = placed_at c.args.place m.info in
    handed_on _ c.from_residual.result _ c.from_residual.ensures.1 (sym (refused_as cs y _ (told_by info_says c.place_member.ensures c.in_err-size_info.was)))
