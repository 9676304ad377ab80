-- `util::round_down_to_next_multiple_of_alignment` meets its contract. Assumes nothing.
use Rattle.std.proofs.Common.{sym, ap, ◌∙◌}
use Rattle.util_defs.specs.Round.{down}
use Rattle.util_defs.specs.Refusal.{answered}
use Rattle.util_defs.specs.Helpers.{align_causes, round_down_for}
use Rattle.util_defs.proofs.Refusals.{means}
use Rattle.util_defs.proofs.Tables.{answer_is, accepted_as, refused_as}
use Rattle.util_defs.proofs.Helpers.{down_meets}
use Rattle.util.proofs.Told.{handed_on}
use Rattle.util.proofs.round_down_to_next_multiple_of_alignment.Goals as goal

pub returns-in_err-align-clause-answer : goal.returns-in_err-align-clause-answer
unfolding round_down_for
returns-in_err-align-clause-answer c =
    let a = c.args.align in
    handed_on (λ n. n) c.from_residual.result _ c.from_residual.ensures.1 (sym (refused_as (align_causes 64 a) a (down c.args.n a) (sym c.in_err-align.ensures.answer)))

pub returns-in_err-align-clause-meaning : goal.returns-in_err-align-clause-meaning
returns-in_err-align-clause-meaning c = means (down_meets 64 c.args.n c.args.align c.ranges.align.fits) (returns-in_err-align-clause-answer c)

pub returns-clause-answer : goal.returns-clause-answer
unfolding round_down_for
returns-clause-answer c =
    let a = c.args.align in
    let e = sym c.in_ok-align.ensures.answer in
    ap answered (c.round_down.ensures ∙ ap (down c.args.n) (answer_is (align_causes 64 a) a e)) ∙ sym (accepted_as (align_causes 64 a) a (down c.args.n a) e)

pub returns-clause-meaning : goal.returns-clause-meaning
returns-clause-meaning c = means (down_meets 64 c.args.n c.args.align c.ranges.align.fits) (returns-clause-answer c)
