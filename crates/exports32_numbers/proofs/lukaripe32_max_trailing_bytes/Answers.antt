-- `exports32_numbers::lukaripe32_max_trailing_bytes` meets its contract. Assumes nothing.
use mathlib.Core.Path.{ap, ◌∙◌}
use Rattle.trailing_defs.specs.Size.{Trailing}
use Rattle.trailing_defs.specs.Calls.{max_trailing_for}
use Rattle.exports32_numbers.specs.Numbers.{number_out32}
use Rattle.exports32_numbers.proofs.lukaripe32_max_trailing_bytes.Goals as goal

pub returns : goal.returns
returns c = c.from-2.ensures ∙ ap number_out32 (c.max_trailing_bytes.ensures.answer ∙ ap (λ (t : Trailing). max_trailing_for 32 t c.args.available_bytes) c.from.ensures)
