-- `exports_layouts::lukaripe_for_repr_c_struct` meets its contract. Assumes nothing.
use mathlib.Core.Path.{ap, ◌∙◌}
use Rattle.exports_layouts.specs.Layouts.{composed_out}
use Rattle.exports_layouts.proofs.lukaripe_for_repr_c_struct.Goals as goal

pub returns : goal.returns
returns c = c.from.ensures ∙ ap composed_out c.for_repr_c_struct.ensures
