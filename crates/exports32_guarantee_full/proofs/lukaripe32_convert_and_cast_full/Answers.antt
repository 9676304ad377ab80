-- `exports32_guarantee_full::lukaripe32_convert_and_cast_full` meets its contract. Assumes nothing.
use mathlib.Core.Path.{ap, ◌∙◌}
use Rattle.exports32_guarantee.specs.Carried.{carried_out32}
use Rattle.exports32_guarantee_full.proofs.lukaripe32_convert_and_cast_full.Goals as goal

pub returns : goal.returns
returns c = c.into.ensures ∙ ap carried_out32 c.convert_and_cast.ensures
