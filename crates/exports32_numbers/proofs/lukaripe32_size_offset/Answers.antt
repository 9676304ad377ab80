-- `exports32_numbers::lukaripe32_size_offset` meets its contract. Assumes nothing.
use mathlib.Core.Path.{ap, ◌∙◌}
use Rattle.trailing_defs.specs.Size.{Trailing}
use Rattle.trailing_defs.specs.Calls.{size_offset_for}
use Rattle.exports32_numbers.specs.Numbers.{number_out32}
use Rattle.exports32_numbers.proofs.lukaripe32_size_offset.Goals as goal

pub returns : goal.returns
returns c = c.from-2.ensures ∙ ap number_out32 (c.size_offset.ensures.answer ∙ ap (λ (t : Trailing). size_offset_for 32 t) c.from.ensures)
