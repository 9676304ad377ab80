-- `exports_shift::lukaripe_size_sequences_match` meets its contract. Assumes nothing.

use Rattle.exports_shift.proofs.lukaripe_size_sequences_match.Goals as goal

pub returns : goal.returns
returns c = c.match_out.ensures
