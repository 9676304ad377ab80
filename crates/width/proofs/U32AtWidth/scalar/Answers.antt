-- `width::U32AtWidth::scalar` meets its contract. Assumes nothing.
use mathlib.Core.Path.{sym}
use borrow.Author.Tests.{lt-ltb}
use Rattle.util_defs.specs.Refusal.{unless}
use Rattle.scalar.specs.Scalar.{scalar_for}
use Rattle.width.proofs.U32AtWidth.scalar.Goals as goal

pub returns-then-code-gt-GREATEST_SCALAR_CODE : goal.returns-then-code-gt-GREATEST_SCALAR_CODE
unfolding scalar_for unless
returns-then-code-gt-GREATEST_SCALAR_CODE c = sym (rw (lt-ltb 8 c.args.code c.if-code-gt-GREATEST_SCALAR_CODE.true))
