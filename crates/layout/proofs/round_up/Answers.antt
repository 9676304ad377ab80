-- `layout::round_up` meets its contract. Assumes nothing.
use Rattle.std.proofs.Common.{[], ◌∷◌, ℕ, sym, ap, ◌∙◌}
use Rattle.util_defs.specs.Round.{up}
use Rattle.util_defs.specs.Refusal.{unless}
use Rattle.util_defs.specs.Helpers.{align_causes}
use Rattle.util_defs.proofs.Refusals.{means}
use Rattle.util_defs.proofs.Tables.{answer_is, accepted_first, refused_first}
use Rattle.util.proofs.Told.{handed_on}
use Rattle.layout_defs.specs.Extend.{rounding_passes, round_up_for}
use Rattle.layout_defs.proofs.Passes.{round_meets}
use Rattle.layout.proofs.round_up.Goals as goal

pub returns-in_err-new-clause-answer : goal.returns-in_err-new-clause-answer
unfolding round_up_for
returns-in_err-new-clause-answer c =
    let v = c.args.len in
    let a = c.args.align in
    handed_on (λ n. n) c.from_residual.result _ c.from_residual.ensures.1 (sym (refused_first (align_causes 64 a) (rounding_passes 64 (up v a) ∷ []) a (up v a) (sym c.in_err-new.ensures.answer)))

pub returns-in_err-new-clause-meaning : goal.returns-in_err-new-clause-meaning
returns-in_err-new-clause-meaning c = means (round_meets 64 c.args.len c.args.align c.ranges.align.fits) (returns-in_err-new-clause-answer c)

pub returns-clause-answer : goal.returns-clause-answer
unfolding round_up_for
returns-clause-answer c =
    let v = c.args.len in
    let a = c.args.align in
    let e = sym c.in_ok-new.ensures.answer in
    c.round_up_to.ensures ∙ ap (λ (x : ℕ). unless (rounding_passes 64 (up v x) ∷ []) (up v x)) (answer_is (align_causes 64 a) a e)
    ∙ sym (accepted_first (align_causes 64 a) (rounding_passes 64 (up v a) ∷ []) a (up v a) e)

pub returns-clause-meaning : goal.returns-clause-meaning
returns-clause-meaning c = means (round_meets 64 c.args.len c.args.align c.ranges.align.fits) (returns-clause-answer c)
