-- `numbers32::low_number` meets its contract. Assumes nothing.
use Rattle.std.proofs.Common.{rules}
use Rattle.widths_defs.specs.Low.{low}
use Rattle.numbers32.proofs.Narrowed.{narrowed}
use Rattle.numbers32.proofs.low_number.Goals as goal

pub returns : goal.returns
returns c = narrowed (λ n. n) (λ n. n) (low 32) c.args.answer c.map.result _ (λ x y q. search rules) c.map.ensures.cases
