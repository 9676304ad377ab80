-- `rounding::RoundingAlignAndPhase::align` meets its contract. Assumes nothing.
use mathlib.Core.Path.{ap, ◌∙◌}
use native.Mathlib.Omega.{arith}
use borrow.Author.Tests.{eq-eqb, ne_eqb}
use Rattle.util_defs.specs.Refusal.{answered, refused, unless}
use Rattle.util_defs.proofs.Refusals.{means}
use Rattle.util.proofs.Told.{handed_on}
use Rattle.rounding.specs.Word.{align_for}
use Rattle.rounding.proofs.Words.{not_zero, align_is, align_meets}
use Rattle.rounding.proofs.Told.{parts_told, parts_refused}
use Rattle.rounding.proofs.RoundingAlignAndPhase+u64.align.Goals as goal

pub returns-in_err-components-clause-answer : goal.returns-in_err-components-clause-answer
unfolding align_for unless
returns-in_err-components-clause-answer c =
    let n = c.args.self.0 in
    let x = parts_refused c.components.result c.components.ensures.meaning c.in_err-components.was in
    handed_on (λ m. m) c.from_residual.result _ c.from_residual.ensures.1 (ap refused x.1 ∙ simp (eq-eqb n 0 x.0))

pub returns-in_err-components-clause-meaning : goal.returns-in_err-components-clause-meaning
returns-in_err-components-clause-meaning c =
    means (align_meets 64 c.args.self.0 (omega arith)) (returns-in_err-components-clause-answer c)

pub returns-clause-answer : goal.returns-clause-answer
unfolding align_for unless
returns-clause-answer c =
    let n = c.args.self.0 in
    let x = parts_told c.components.result c.components.ensures.meaning c.in_ok-components.was in
    ap answered (align_is 64 x (omega arith)) ∙ simp (ne_eqb n 0 (λ z. omega (arith, not_zero x)))

pub returns-clause-meaning : goal.returns-clause-meaning
returns-clause-meaning c =
    means (align_meets 64 c.args.self.0 (omega arith)) (returns-clause-answer c)
