-- `exports_working::lukaripe_working_begin` meets its contract. Assumes nothing.
use mathlib.Core.Path.{ap, ◌∙◌}
use Rattle.exports_layouts.specs.Layouts.{layout_out}
use Rattle.exports_working.proofs.lukaripe_working_begin.Goals as goal

pub returns : goal.returns
returns c = c.from.ensures ∙ ap layout_out c.begin.ensures.answer
