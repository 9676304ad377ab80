-- `exports32_converts::lukaripe32_try_compute` meets its contract. Assumes nothing.

use Rattle.exports32_converts.proofs.lukaripe32_try_compute.Goals as goal

pub returns : goal.returns
returns c = c.compute_out.ensures
