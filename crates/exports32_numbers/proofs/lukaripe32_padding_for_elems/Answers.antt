-- `exports32_numbers::lukaripe32_padding_for_elems` meets its contract. Assumes nothing.
use mathlib.Core.Path.{ap, ◌∙◌}
use Rattle.trailing_defs.specs.Size.{Trailing}
use Rattle.trailing_defs.specs.Calls.{padding_for_elems}
use Rattle.exports32_numbers.specs.Numbers.{number_out32}
use Rattle.exports32_numbers.proofs.lukaripe32_padding_for_elems.Goals as goal

pub returns : goal.returns
returns c = c.from-2.ensures ∙ ap number_out32 (c.padding_for_elems.ensures.answer ∙ ap (λ (t : Trailing). padding_for_elems 32 t c.args.elems) c.from.ensures)
