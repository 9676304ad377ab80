-- `exports32_numbers::lukaripe32_max` meets its contract. Assumes nothing.
use mathlib.Core.Path.{ap, ◌∙◌}
use Rattle.exports32_numbers.specs.Numbers.{number_out32}
use Rattle.exports32_numbers.proofs.lukaripe32_max.Goals as goal

pub returns : goal.returns
returns c = c.from.ensures ∙ ap number_out32 c.max.ensures.answer
