-- `exports_layouts::lukaripe_compose` meets its contract. Assumes nothing.
use mathlib.Core.Path.{ap, ◌∙◌}
use Rattle.exports_layouts.specs.Layouts.{composed_out}
use Rattle.exports_layouts.proofs.lukaripe_compose.Goals as goal

pub returns : goal.returns
returns c = c.from.ensures ∙ ap composed_out c.compose.ensures
