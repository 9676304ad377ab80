-- `share::low_share` meets its contract. Assumes nothing.

use Rattle.share.proofs.low_share.Goals as goal

pub returns : goal.returns
returns c = simp (c.low_word.ensures, c.low_word-2.ensures, c.low_word-3.ensures, c.low_word-4.ensures)
