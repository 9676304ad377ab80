-- `exports_numbers::lukaripe_advance` meets its contract. Assumes nothing.
use mathlib.Core.Path.{ap, ◌∙◌}
use Rattle.trailing_defs.specs.Size.{Trailing}
use Rattle.trailing_defs.specs.Calls.{advance_for}
use Rattle.exports_numbers.specs.Numbers.{trailing_out}
use Rattle.exports_numbers.proofs.lukaripe_advance.Goals as goal

pub returns : goal.returns
returns c =
    c.from-2.ensures
    ∙ ap trailing_out (c.advance.ensures.answer ∙ ap (λ (t : Trailing). advance_for 64 t c.args.bytes c.args.elem_size) c.from.ensures)
