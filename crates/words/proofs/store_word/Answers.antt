-- `words::store_word` meets its contract. Assumes nothing.
use Rattle.std.proofs.Common.{arith, ◌+◌, ◌-◌, ◌∙◌}
use Rattle.words.specs.Bytes.{word_bytes}
use Rattle.words.proofs.LittleEndian.{replaced, word_told, word_length}
use Rattle.words.proofs.store_word.Goals as goal

pub returns : goal.returns
returns c = replaced c.args.at (c.args.at + 8 - c.args.at) c.args.out.now (word_bytes c.args.v) c.copy_from_slice.new.self (omega (arith, word_length c.args.v))
    (c.copy_from_slice.ensures.after ∙ (c.to_le_bytes.ensures ∙ word_told c.args.v)) (omega (arith, c.requires, word_length c.args.v))
