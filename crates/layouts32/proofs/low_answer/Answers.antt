-- `layouts32::low_answer` meets its contract. Assumes nothing.
use Rattle.std.proofs.Common.{rules}
use Rattle.layout.specs.View.{layout_of}
use Rattle.widths_layouts_defs.specs.Low.{low_layout}
use Rattle.numbers32.proofs.Narrowed.{narrowed}
use Rattle.layouts32.proofs.low_answer.Goals as goal

pub returns : goal.returns
returns c = narrowed layout_of layout_of (low_layout 32) c.args.answer c.map.result _ (λ x y q. search rules) c.map.ensures.cases
