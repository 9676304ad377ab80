-- `exports32_numbers::lukaripe32_round_down_to_next_multiple_of_alignment` meets its contract. Assumes nothing.
use mathlib.Core.Path.{ap, ◌∙◌}
use Rattle.exports32_numbers.specs.Numbers.{number_out32}
use Rattle.exports32_numbers.proofs.lukaripe32_round_down_to_next_multiple_of_alignment.Goals as goal

pub returns : goal.returns
returns c = c.from.ensures ∙ ap number_out32 c.round_down_to_next_multiple_of_alignment.ensures.answer
