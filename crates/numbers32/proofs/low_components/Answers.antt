-- `numbers32::low_components` meets its contract. Assumes nothing.
use Rattle.std.proofs.Common.{rules}
use Rattle.rounding.specs.View.{parts_of}
use Rattle.widths_defs.specs.Low.{low_parts}
use Rattle.numbers32.proofs.Narrowed.{narrowed}
use Rattle.numbers32.proofs.low_components.Goals as goal

pub returns : goal.returns
returns c = narrowed parts_of parts_of (low_parts 32) c.args.answer c.map.result _ (λ x y q. search rules) c.map.ensures.cases
