-- `sequence32::same_within` meets its contract. Assumes nothing.

use Rattle.util.proofs.Told.{handed_on}
use Rattle.sequence32.proofs.same_within.Goals as goal

pub returns-then-start : goal.returns-then-start
returns-then-start c = simp (c.in_ok-same.was, c.if-start.true)

pub returns-else-start : goal.returns-else-start
returns-else-start c = simp (c.in_ok-same.was, c.if-start.false)

pub returns-in_err-same : goal.returns-in_err-same
returns-in_err-same c = handed_on _ c.from_residual.result _ c.from_residual.ensures.1 (simp c.in_err-same.was)
