-- `describe32::low_read` meets its contract. Assumes nothing.
use Rattle.std.proofs.Common.{rules, refl}
use Rattle.layout.specs.View.{layout_of}
use Rattle.describe32.specs.View.{low_read}
use Rattle.numbers32.proofs.Narrowed.{narrowed_at}
use Rattle.describe32.proofs.low_read.Goals as goal

pub returns : goal.returns
returns c = narrowed_at layout_of layout_of (low_read 32) c.args.answer c.map.result _ (λ x y q. search rules) (λ n i. refl) c.map.ensures.cases
