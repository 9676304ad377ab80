-- `record::read_words` meets its contract. Assumes nothing.
use mathlib.Core.Path.{◌∙◌}
use native.Mathlib.Omega.{arith}
use Rattle.words.proofs.LittleEndian.{read_within}
use Rattle.record.proofs.read_words.Goals as goal

pub returns : goal.returns
returns c =
    let s = c.args.s.now in
    λ i. record {
      align = (c.read_word.ensures ∙ read_within s 0 (omega (arith, c.requires))) i;
      kind = (c.read_word-2.ensures ∙ read_within s 8 (omega (arith, c.requires))) i;
      size = (c.read_word-3.ensures ∙ read_within s 16 (omega (arith, c.requires))) i;
      offset = (c.read_word-4.ensures ∙ read_within s 24 (omega (arith, c.requires))) i;
      elem = (c.read_word-5.ensures ∙ read_within s 32 (omega (arith, c.requires))) i;
      word = (c.read_word-6.ensures ∙ read_within s 40 (omega (arith, c.requires))) i;
    }
