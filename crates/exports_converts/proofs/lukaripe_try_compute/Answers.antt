-- `exports_converts::lukaripe_try_compute` meets its contract. Assumes nothing.

use Rattle.exports_converts.proofs.lukaripe_try_compute.Goals as goal

pub returns : goal.returns
returns c = c.compute_out.ensures
