-- `exports32_shift::lukaripe32_size_sequences_match` meets its contract. Assumes nothing.

use Rattle.exports32_shift.proofs.lukaripe32_size_sequences_match.Goals as goal

pub returns : goal.returns
returns c = c.match_out.ensures
