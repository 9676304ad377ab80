-- `exports_full::lukaripe_sizes_agree` meets its contract. Assumes nothing.
use mathlib.Core.Path.{ap, ap₂, ◌∙◌}
use Rattle.trailing_defs.specs.Size.{Trailing}
use Rattle.full_defs.specs.Full.{agree_for}
use Rattle.exports_numbers.specs.Numbers.{decision_out}
use Rattle.exports_full.proofs.lukaripe_sizes_agree.Goals as goal

pub returns : goal.returns
returns c =
    c.from-3.ensures
    ∙ ap decision_out (c.sizes_agree.ensures.answer ∙ ap₂ (λ (s t : Trailing). agree_for 64 s t) c.from.ensures c.from-2.ensures)
