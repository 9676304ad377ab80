-- `scalar::scalar` meets its contract. Assumes nothing.
use borrow.Author.Tests.{lt-ltb, le-ltb}
use Rattle.util_defs.specs.Refusal.{unless}
use Rattle.scalar.specs.Scalar.{target64, scalar_for}
use Rattle.scalar.proofs.Scalars.{scalar_meets}
use Rattle.util_defs.proofs.Refusals.{means}
use Rattle.scalar.proofs.scalar.Goals as goal

pub returns-then-code-gt-GREATEST_SCALAR_CODE-clause-answer : goal.returns-then-code-gt-GREATEST_SCALAR_CODE-clause-answer
unfolding scalar_for unless
returns-then-code-gt-GREATEST_SCALAR_CODE-clause-answer c = let x = c.args in simp (lt-ltb 8 x.code c.if-code-gt-GREATEST_SCALAR_CODE.true)

pub returns-then-code-gt-GREATEST_SCALAR_CODE-clause-meaning : goal.returns-then-code-gt-GREATEST_SCALAR_CODE-clause-meaning
returns-then-code-gt-GREATEST_SCALAR_CODE-clause-meaning c = let x = c.args in means (scalar_meets target64 x.code) (returns-then-code-gt-GREATEST_SCALAR_CODE-clause-answer c)

pub returns-clause-answer : goal.returns-clause-answer
unfolding scalar_for unless
returns-clause-answer c = let x = c.args in simp (le-ltb 8 x.code c.if-code-gt-GREATEST_SCALAR_CODE.false, c.scalar_size-size.ensures)

pub returns-clause-meaning : goal.returns-clause-meaning
returns-clause-meaning c = let x = c.args in means (scalar_meets target64 x.code) (returns-clause-answer c)
