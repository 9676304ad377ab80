-- `exports32_numbers::lukaripe32_has_same_size_sequence` meets its contract. Assumes nothing.
use mathlib.Core.Path.{ap, ap₂, ◌∙◌}
use Rattle.trailing_defs.specs.Size.{Trailing}
use Rattle.trailing_defs.specs.Calls.{same_for}
use Rattle.exports32_numbers.specs.Numbers.{decision_out32}
use Rattle.exports32_numbers.proofs.lukaripe32_has_same_size_sequence.Goals as goal

pub returns : goal.returns
returns c =
    c.from-3.ensures
    ∙ ap decision_out32 (c.has_same_size_sequence.ensures.answer ∙ ap₂ (λ (s t : Trailing). same_for 32 s t) c.from.ensures c.from-2.ensures)
