-- `exports_numbers::lukaripe_padding_for_elems` meets its contract. Assumes nothing.
use mathlib.Core.Path.{ap, ◌∙◌}
use Rattle.trailing_defs.specs.Size.{Trailing}
use Rattle.trailing_defs.specs.Calls.{padding_for_elems}
use Rattle.exports_numbers.specs.Numbers.{number_out}
use Rattle.exports_numbers.proofs.lukaripe_padding_for_elems.Goals as goal

pub returns : goal.returns
returns c = c.from-2.ensures ∙ ap number_out (c.padding_for_elems.ensures.answer ∙ ap (λ (t : Trailing). padding_for_elems 64 t c.args.elems) c.from.ensures)
