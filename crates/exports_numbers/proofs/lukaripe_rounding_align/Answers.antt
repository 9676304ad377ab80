-- `exports_numbers::lukaripe_rounding_align` meets its contract. Assumes nothing.
use mathlib.Core.Path.{ap, ◌∙◌}
use Rattle.exports_numbers.specs.Numbers.{number_out}
use Rattle.exports_numbers.proofs.lukaripe_rounding_align.Goals as goal

pub returns : goal.returns
returns c = c.from.ensures ∙ ap number_out c.align.ensures.answer
