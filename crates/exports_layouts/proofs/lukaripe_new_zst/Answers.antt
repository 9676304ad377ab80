-- `exports_layouts::lukaripe_new_zst` meets its contract. Assumes nothing.
use mathlib.Core.Path.{ap, ◌∙◌}
use Rattle.exports_layouts.specs.Layouts.{layout_out}
use Rattle.exports_layouts.proofs.lukaripe_new_zst.Goals as goal

pub returns : goal.returns
returns c = c.from.ensures ∙ ap layout_out c.new_zst.ensures.answer
