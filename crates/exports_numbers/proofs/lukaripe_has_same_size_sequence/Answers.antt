-- `exports_numbers::lukaripe_has_same_size_sequence` meets its contract. Assumes nothing.
use mathlib.Core.Path.{ap, ap₂, ◌∙◌}
use Rattle.trailing_defs.specs.Size.{Trailing}
use Rattle.trailing_defs.specs.Calls.{same_for}
use Rattle.exports_numbers.specs.Numbers.{decision_out}
use Rattle.exports_numbers.proofs.lukaripe_has_same_size_sequence.Goals as goal

pub returns : goal.returns
returns c =
    c.from-3.ensures
    ∙ ap decision_out (c.has_same_size_sequence.ensures.answer ∙ ap₂ (λ (s t : Trailing). same_for 64 s t) c.from.ensures c.from-2.ensures)
