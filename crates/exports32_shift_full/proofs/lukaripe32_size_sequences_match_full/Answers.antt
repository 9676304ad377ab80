-- `exports32_shift_full::lukaripe32_size_sequences_match_full` meets its contract. Assumes nothing.

use Rattle.exports32_shift_full.proofs.lukaripe32_size_sequences_match_full.Goals as goal

pub returns : goal.returns
returns c = c.match_out.ensures
