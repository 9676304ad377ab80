-- `util::min` meets its contract. Assumes nothing.
use Rattle.std.proofs.Common.{ℕ, sym, ap, ap₂, ◌∙◌}
use Rattle.std.specs.Prelude.{min}
use Rattle.util_defs.specs.Refusal.{answered}
use Rattle.util_defs.specs.Helpers.{align_causes, min_for}
use Rattle.util_defs.proofs.Refusals.{means}
use Rattle.util_defs.proofs.Tables.{answer_is, accepted_as, accepted_first, refused_as, refused_first}
use Rattle.util_defs.proofs.Helpers.{min_meets}
use Rattle.util.proofs.Told.{handed_on}
use Rattle.util.proofs.min.Goals as goal

pub returns-in_err-a-clause-answer : goal.returns-in_err-a-clause-answer
unfolding min_for
returns-in_err-a-clause-answer c =
    let a = c.args.a in
    let b = c.args.b in
    handed_on (λ n. n) c.from_residual.result _ c.from_residual.ensures.1 (sym (refused_first (align_causes 64 a) (align_causes 64 b) a (min a b) (sym c.in_err-a.ensures.answer)))

pub returns-in_err-a-clause-meaning : goal.returns-in_err-a-clause-meaning
returns-in_err-a-clause-meaning c = means (min_meets 64 c.args.a c.args.b c.ranges.a.fits c.ranges.b.fits) (returns-in_err-a-clause-answer c)

pub returns-in_err-b-clause-answer : goal.returns-in_err-b-clause-answer
unfolding min_for
returns-in_err-b-clause-answer c =
    let a = c.args.a in
    let b = c.args.b in
    handed_on (λ n. n) c.from_residual-in_err-b.result _ c.from_residual-in_err-b.ensures.1 (sym (accepted_first (align_causes 64 a) (align_causes 64 b) a (min a b) (sym c.in_ok-a.ensures.answer) ∙ refused_as (align_causes 64 b) b (min a b) (sym c.in_err-b.ensures.answer)))

pub returns-in_err-b-clause-meaning : goal.returns-in_err-b-clause-meaning
returns-in_err-b-clause-meaning c = means (min_meets 64 c.args.a c.args.b c.ranges.a.fits c.ranges.b.fits) (returns-in_err-b-clause-answer c)

pub returns-clause-answer : goal.returns-clause-answer
unfolding min_for
returns-clause-answer c =
    let a = c.args.a in
    let b = c.args.b in
    let e = sym c.in_ok-a.ensures.answer in
    let f = sym c.in_ok-b.ensures.answer in
    ap answered c.min.ensures ∙ ap₂ (λ (x y : ℕ). answered (min x y)) (answer_is (align_causes 64 a) a e) (answer_is (align_causes 64 b) b f)
    ∙ sym (accepted_first (align_causes 64 a) (align_causes 64 b) a (min a b) e ∙ accepted_as (align_causes 64 b) b (min a b) f)

pub returns-clause-meaning : goal.returns-clause-meaning
returns-clause-meaning c = means (min_meets 64 c.args.a c.args.b c.ranges.a.fits c.ranges.b.fits) (returns-clause-answer c)
