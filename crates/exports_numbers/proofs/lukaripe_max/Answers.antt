-- `exports_numbers::lukaripe_max` meets its contract. Assumes nothing.
use mathlib.Core.Path.{ap, ◌∙◌}
use Rattle.exports_numbers.specs.Numbers.{number_out}
use Rattle.exports_numbers.proofs.lukaripe_max.Goals as goal

pub returns : goal.returns
returns c = c.from.ensures ∙ ap number_out c.max.ensures.answer
