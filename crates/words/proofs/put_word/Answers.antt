-- `words::put_word` meets its contract. Assumes nothing.
use mathlib.Core.Path.{sym, ◌∙◌}
use native.Mathlib.Omega.{arith}
use Rattle.words.proofs.LittleEndian.{put_within, put_outside}
use Rattle.words.proofs.put_word.Goals as goal

pub returns-then-out-lt-WORD_BYTES : goal.returns-then-out-lt-WORD_BYTES
returns-then-out-lt-WORD_BYTES c = let x = c.args in sym (put_outside x.out.now x.at x.v (omega (arith, c.if-out-lt-WORD_BYTES.true)))

pub returns-then-at-out : goal.returns-then-at-out
returns-then-at-out c = let x = c.args in sym (put_outside x.out.now x.at x.v (omega (arith, c.if-out-lt-WORD_BYTES.false, c.if-at-out.true)))

pub returns : goal.returns
returns c = let x = c.args in
    c.store_word.ensures ∙ sym (put_within x.out.now x.at x.v (omega (arith, c.if-out-lt-WORD_BYTES.false, c.if-at-out.false)))
