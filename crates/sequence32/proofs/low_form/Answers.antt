-- `sequence32::low_form` meets its contract. Assumes nothing.

use Rattle.sequence32.proofs.low_form.Goals as goal

pub returns : goal.returns
returns c = simp (c.low_word.ensures, c.low_word-2.ensures, c.low_word-3.ensures)
