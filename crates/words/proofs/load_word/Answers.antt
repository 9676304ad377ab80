-- `words::load_word` meets its contract. Assumes nothing.
use Rattle.std.proofs.Common.{refl, arith}
use Rattle.words.proofs.LittleEndian.{joined_word}
use Rattle.words.proofs.load_word.Goals as goal

pub returns : goal.returns
returns c = omega (arith, c.from_le_bytes.ensures, joined_word c.args.s.now c.args.at c.requires refl refl refl refl refl refl refl refl)
