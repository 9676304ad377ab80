-- `layouts32::low_layout` meets its contract. Assumes nothing.

use Rattle.layouts32.proofs.low_layout.Goals as goal

pub returns : goal.returns
returns c = simp (c.low_word.ensures, c.low_info.ensures)
