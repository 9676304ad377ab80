-- `exports_shift_full::lukaripe_size_sequences_match_full` meets its contract. Assumes nothing.

use Rattle.exports_shift_full.proofs.lukaripe_size_sequences_match_full.Goals as goal

pub returns : goal.returns
returns c = c.match_out.ensures
