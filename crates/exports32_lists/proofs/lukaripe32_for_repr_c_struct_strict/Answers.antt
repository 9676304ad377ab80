-- `exports32_lists::lukaripe32_for_repr_c_struct_strict` meets its contract. Assumes nothing.
use mathlib.Core.Path.{ap, ◌∙◌}
use Rattle.exports32_lists.specs.Lists.{composed_out32}
use Rattle.exports32_lists.proofs.lukaripe32_for_repr_c_struct_strict.Goals as goal

pub returns : goal.returns
returns c = c.from.ensures ∙ ap composed_out32 c.for_repr_c_struct_strict.ensures.answer
