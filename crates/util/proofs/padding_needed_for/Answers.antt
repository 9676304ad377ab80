-- `util::padding_needed_for` meets its contract. Assumes nothing.
use Rattle.std.proofs.Common.{sym, ap, ◌∙◌}
use Rattle.util_defs.specs.Round.{padding}
use Rattle.util_defs.specs.Refusal.{answered}
use Rattle.util_defs.specs.Helpers.{align_causes, padding_for}
use Rattle.util_defs.proofs.Refusals.{means}
use Rattle.util_defs.proofs.Tables.{answer_is, accepted_as, refused_as}
use Rattle.util_defs.proofs.Helpers.{padding_meets}
use Rattle.util.proofs.Told.{handed_on}
use Rattle.util.proofs.padding_needed_for.Goals as goal

pub returns-in_err-align-clause-answer : goal.returns-in_err-align-clause-answer
unfolding padding_for
returns-in_err-align-clause-answer c =
    let a = c.args.align in
    handed_on (λ n. n) c.from_residual.result _ c.from_residual.ensures.1 (sym (refused_as (align_causes 64 a) a (padding c.args.len a) (sym c.in_err-align.ensures.answer)))

pub returns-in_err-align-clause-meaning : goal.returns-in_err-align-clause-meaning
returns-in_err-align-clause-meaning c = means (padding_meets 64 c.args.len c.args.align c.ranges.align.fits) (returns-in_err-align-clause-answer c)

pub returns-clause-answer : goal.returns-clause-answer
unfolding padding_for
returns-clause-answer c =
    let a = c.args.align in
    let e = sym c.in_ok-align.ensures.answer in
    ap answered (c.padding_needed.ensures ∙ ap (padding c.args.len) (answer_is (align_causes 64 a) a e)) ∙ sym (accepted_as (align_causes 64 a) a (padding c.args.len a) e)

pub returns-clause-meaning : goal.returns-clause-meaning
returns-clause-meaning c = means (padding_meets 64 c.args.len c.args.align c.ranges.align.fits) (returns-clause-answer c)
