-- `exports_converts_full::lukaripe_try_compute_full` meets its contract. Assumes nothing.

use Rattle.exports_converts_full.proofs.lukaripe_try_compute_full.Goals as goal

pub returns : goal.returns
returns c = c.compute_out.ensures
