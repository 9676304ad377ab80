-- `shifts32::shift_within` meets its contract. Assumes nothing.

use Rattle.util.proofs.Told.{handed_on}
use Rattle.shifts32.proofs.shift_within.Goals as goal

pub returns-then-start : goal.returns-then-start
returns-then-start c = simp (c.in_ok-found.was, c.if-start.true, c.low_shift.ensures)

pub returns-else-start : goal.returns-else-start
returns-else-start c = simp (c.in_ok-found.was, c.if-start.false)

pub returns-in_err-found : goal.returns-in_err-found
returns-in_err-found c = handed_on _ c.from_residual.result _ c.from_residual.ensures.1 (simp c.in_err-found.was)
