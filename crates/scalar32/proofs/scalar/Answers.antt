-- `scalar32::scalar` meets its contract. Assumes nothing.
use mathlib.Core.Path.{ap, ◌∙◌}
use Prim.Native.Nat.{ℕ, min}
use native.Mathlib.Omega.{arith}
use borrow.Author.Tests.{lt-ltb, le-ltb}
use Rattle.util_defs.specs.Refusal.{unless}
use Rattle.scalar.specs.Scalar.{scalar_for}
use Rattle.scalar.proofs.Scalars.{scalar_meets}
use Rattle.scalar32.specs.Target.{target32, greatest_scalar_align}
use Rattle.scalar32.proofs.Column.{aligned_by_size}
use Rattle.util_defs.proofs.Refusals.{means}
use Rattle.scalar32.proofs.scalar.Goals as goal

pub returns-then-code-gt-GREATEST_SCALAR_CODE-clause-answer : goal.returns-then-code-gt-GREATEST_SCALAR_CODE-clause-answer
unfolding scalar_for unless
returns-then-code-gt-GREATEST_SCALAR_CODE-clause-answer c = simp (lt-ltb 8 c.args.code c.if-code-gt-GREATEST_SCALAR_CODE.true)

pub returns-then-code-gt-GREATEST_SCALAR_CODE-clause-meaning : goal.returns-then-code-gt-GREATEST_SCALAR_CODE-clause-meaning
returns-then-code-gt-GREATEST_SCALAR_CODE-clause-meaning c = means (scalar_meets target32 c.args.code) (returns-then-code-gt-GREATEST_SCALAR_CODE-clause-answer c)

pub returns-clause-answer : goal.returns-clause-answer
unfolding scalar_for unless
returns-clause-answer c =
    let l = c.if-code-gt-GREATEST_SCALAR_CODE.false in
    let s = c.scalar_size-size.ensures in simp (le-ltb 8 c.args.code l, c.scalar_align.ensures ∙ ap (λ (n : ℕ). min n greatest_scalar_align) s ∙ aligned_by_size c.args.code (omega (arith, l)), s)

pub returns-clause-meaning : goal.returns-clause-meaning
returns-clause-meaning c =
    means (scalar_meets target32 c.args.code) (returns-clause-answer c)
