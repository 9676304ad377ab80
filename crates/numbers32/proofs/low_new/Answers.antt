-- `numbers32::low_new` meets its contract. Assumes nothing.
use Rattle.std.proofs.Common.{rules}
use Rattle.rounding.specs.View.{word_of}
use Rattle.widths_defs.specs.Low.{low}
use Rattle.numbers32.proofs.Narrowed.{narrowed}
use Rattle.numbers32.proofs.low_new.Goals as goal

pub returns : goal.returns
returns c = narrowed word_of word_of (low 32) c.args.answer c.map.result _ (λ x y q. search rules) c.map.ensures.cases
