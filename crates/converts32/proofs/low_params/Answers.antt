-- `converts32::low_params` meets its contract. Assumes nothing.

use Rattle.converts32.proofs.low_params.Goals as goal

pub returns-in-UnsizedToUnsized : goal.returns-in-UnsizedToUnsized
returns-in-UnsizedToUnsized c = simp (c.in-UnsizedToUnsized.is, c.low_word.ensures, c.low_word-in-UnsizedToUnsized.ensures)

pub returns-in-SizedToUnsized : goal.returns-in-SizedToUnsized
returns-in-SizedToUnsized c = simp (c.in-SizedToUnsized.is, c.low_word-in-SizedToUnsized.ensures)
