-- `exports32_layouts::lukaripe32_for_slice` meets its contract. Assumes nothing.
use mathlib.Core.Path.{ap, ◌∙◌}
use Rattle.exports32_layouts.specs.Layouts.{layout_out32}
use Rattle.exports32_layouts.proofs.lukaripe32_for_slice.Goals as goal

pub returns : goal.returns
returns c = c.from.ensures ∙ ap layout_out32 c.for_slice.ensures.answer
