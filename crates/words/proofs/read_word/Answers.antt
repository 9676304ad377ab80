-- `words::read_word` meets its contract. Assumes nothing.
use mathlib.Core.Path.{sym, ◌∙◌}
use native.Mathlib.Omega.{arith}
use Rattle.words.proofs.LittleEndian.{read_within, read_outside}
use Rattle.words.proofs.read_word.Goals as goal

pub returns-then-s-lt-WORD_BYTES : goal.returns-then-s-lt-WORD_BYTES
returns-then-s-lt-WORD_BYTES c = let x = c.args in sym (read_outside x.s.now x.at (omega (arith, c.if-s-lt-WORD_BYTES.true)))

pub returns-then-at-s : goal.returns-then-at-s
returns-then-at-s c = let x = c.args in sym (read_outside x.s.now x.at (omega (arith, c.if-s-lt-WORD_BYTES.false, c.if-at-s.true)))

pub returns : goal.returns
returns c = let x = c.args in
    c.load_word.ensures ∙ sym (read_within x.s.now x.at (omega (arith, c.if-s-lt-WORD_BYTES.false, c.if-at-s.false)))
