-- `converts32::compute_within` meets its contract. Assumes nothing.

use Rattle.util.proofs.Told.{handed_on}
use Rattle.converts32.proofs.compute_within.Goals as goal

pub returns-then-start : goal.returns-then-start
returns-then-start c = simp (c.in_ok-params.was, c.if-start.true, c.low_params.ensures)

pub returns-in_err-params : goal.returns-in_err-params
returns-in_err-params c = handed_on _ c.from_residual.result _ c.from_residual.ensures.1 (simp c.in_err-params.was)
