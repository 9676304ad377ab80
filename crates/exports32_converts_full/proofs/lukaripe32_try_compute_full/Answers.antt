-- `exports32_converts_full::lukaripe32_try_compute_full` meets its contract. Assumes nothing.

use Rattle.exports32_converts_full.proofs.lukaripe32_try_compute_full.Goals as goal

pub returns : goal.returns
returns c = c.compute_out.ensures
