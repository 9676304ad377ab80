-- `exports_numbers::lukaripe_min` meets its contract. Assumes nothing.
use mathlib.Core.Path.{ap, ◌∙◌}
use Rattle.exports_numbers.specs.Numbers.{number_out}
use Rattle.exports_numbers.proofs.lukaripe_min.Goals as goal

pub returns : goal.returns
returns c = c.from.ensures ∙ ap number_out c.min.ensures.answer
