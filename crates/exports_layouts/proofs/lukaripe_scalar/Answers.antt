-- `exports_layouts::lukaripe_scalar` meets its contract. Assumes nothing.
use mathlib.Core.Path.{ap, ◌∙◌}
use Rattle.exports_layouts.specs.Layouts.{layout_out}
use Rattle.exports_layouts.proofs.lukaripe_scalar.Goals as goal

pub returns : goal.returns
returns c = c.from.ensures ∙ ap layout_out c.scalar.ensures.answer
