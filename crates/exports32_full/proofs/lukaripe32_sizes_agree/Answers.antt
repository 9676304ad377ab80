-- `exports32_full::lukaripe32_sizes_agree` meets its contract. Assumes nothing.
use mathlib.Core.Path.{ap, ap₂, ◌∙◌}
use Rattle.trailing_defs.specs.Size.{Trailing}
use Rattle.full_defs.specs.Full.{agree_for}
use Rattle.exports32_numbers.specs.Numbers.{decision_out32}
use Rattle.exports32_full.proofs.lukaripe32_sizes_agree.Goals as goal

pub returns : goal.returns
returns c =
    c.from-3.ensures
    ∙ ap decision_out32 (c.sizes_agree.ensures.answer ∙ ap₂ (λ (s t : Trailing). agree_for 32 s t) c.from.ensures c.from-2.ensures)
