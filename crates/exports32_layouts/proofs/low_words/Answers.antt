-- `exports32_layouts::low_words` meets its contract. Assumes nothing.

use Rattle.exports32_layouts.proofs.low_words.Goals as goal

pub returns : goal.returns
returns c = simp (c.low_word.ensures, c.low_word-2.ensures, c.low_word-3.ensures, c.low_word-4.ensures, c.low_word-5.ensures, c.low_word-6.ensures)
