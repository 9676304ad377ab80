-- `exports_guarantee::lukaripe_convert_and_cast` meets its contract. Assumes nothing.
use mathlib.Core.Path.{ap, ◌∙◌}
use Rattle.exports_guarantee.specs.Carried.{carried_out}
use Rattle.exports_guarantee.proofs.lukaripe_convert_and_cast.Goals as goal

pub returns : goal.returns
returns c = c.into.ensures ∙ ap carried_out c.convert_and_cast.ensures
