-- `exports_numbers::lukaripe_max_trailing_bytes` meets its contract. Assumes nothing.
use mathlib.Core.Path.{ap, ◌∙◌}
use Rattle.trailing_defs.specs.Size.{Trailing}
use Rattle.trailing_defs.specs.Calls.{max_trailing_for}
use Rattle.exports_numbers.specs.Numbers.{number_out}
use Rattle.exports_numbers.proofs.lukaripe_max_trailing_bytes.Goals as goal

pub returns : goal.returns
returns c = c.from-2.ensures ∙ ap number_out (c.max_trailing_bytes.ensures.answer ∙ ap (λ (t : Trailing). max_trailing_for 64 t c.args.available_bytes) c.from.ensures)
