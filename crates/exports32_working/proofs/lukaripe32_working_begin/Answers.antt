-- `exports32_working::lukaripe32_working_begin` meets its contract. Assumes nothing.
use mathlib.Core.Path.{ap, ◌∙◌}
use Rattle.exports32_layouts.specs.Layouts.{layout_out32}
use Rattle.exports32_working.proofs.lukaripe32_working_begin.Goals as goal

pub returns : goal.returns
returns c = c.from.ensures ∙ ap layout_out32 c.begin.ensures.answer
