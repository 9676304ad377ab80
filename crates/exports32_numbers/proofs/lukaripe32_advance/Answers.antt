-- `exports32_numbers::lukaripe32_advance` meets its contract. Assumes nothing.
use mathlib.Core.Path.{ap, ◌∙◌}
use Rattle.trailing_defs.specs.Size.{Trailing}
use Rattle.trailing_defs.specs.Calls.{advance_for}
use Rattle.exports32_numbers.specs.Numbers.{trailing_out32}
use Rattle.exports32_numbers.proofs.lukaripe32_advance.Goals as goal

pub returns : goal.returns
returns c =
    c.from-2.ensures
    ∙ ap trailing_out32 (c.advance.ensures.answer ∙ ap (λ (t : Trailing). advance_for 32 t c.args.bytes c.args.elem_size) c.from.ensures)
