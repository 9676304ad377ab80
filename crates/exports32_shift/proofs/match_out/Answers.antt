-- `exports32_shift::match_out` meets its contract. Assumes nothing.
use mathlib.Core.Path.{ap, ap₂, ◌∙◌}
use Rattle.trailing_defs.specs.Size.{Trailing}
use Rattle.shift_defs.specs.Match.{match_for}
use Rattle.shift_defs.specs.Mode.{comparison_of}
use Rattle.shift.specs.View.{mode_of}
use Rattle.exports32_numbers.specs.Numbers.{decision_out32}
use Rattle.exports32_shift.proofs.match_out.Goals as goal

pub returns : goal.returns
returns c =
    c.from-3.ensures
    ∙ ap decision_out32 (c.size_sequences_match.ensures.answer ∙ ap₂ (λ (s t : Trailing). match_for 32 (comparison_of 32 (mode_of c.args.mode)) s t c.args.dst_base) c.from.ensures c.from-2.ensures)
