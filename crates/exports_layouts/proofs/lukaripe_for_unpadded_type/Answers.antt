-- `exports_layouts::lukaripe_for_unpadded_type` meets its contract. Assumes nothing.
use mathlib.Core.Path.{ap, ◌∙◌}
use Rattle.exports_layouts.specs.Layouts.{layout_out}
use Rattle.exports_layouts.proofs.lukaripe_for_unpadded_type.Goals as goal

pub returns : goal.returns
returns c = c.from.ensures ∙ ap layout_out c.for_unpadded_type.ensures.answer
