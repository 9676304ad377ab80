-- `describe32::low_part` meets its contract. Assumes nothing.
use Rattle.std.proofs.Common.{rules, refl}
use Rattle.describe.specs.View.{part_in}
use Rattle.describe32.specs.View.{low_part}
use Rattle.numbers32.proofs.Narrowed.{narrowed_at}
use Rattle.describe32.proofs.low_part.Goals as goal

pub returns : goal.returns
returns c = narrowed_at part_in part_in (low_part 32) c.args.answer c.map.result _ (λ x y q. search rules) (λ n i. refl) c.map.ensures.cases
