-- `exports_numbers::lukaripe_round_down_to_next_multiple_of_alignment` meets its contract. Assumes nothing.
use mathlib.Core.Path.{ap, ◌∙◌}
use Rattle.exports_numbers.specs.Numbers.{number_out}
use Rattle.exports_numbers.proofs.lukaripe_round_down_to_next_multiple_of_alignment.Goals as goal

pub returns : goal.returns
returns c = c.from.ensures ∙ ap number_out c.round_down_to_next_multiple_of_alignment.ensures.answer
