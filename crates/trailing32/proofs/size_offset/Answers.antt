-- `trailing32::size_offset` meets its contract. Assumes nothing.
use Rattle.trailing.specs.View.{trailing_of}
use mathlib.Core.Path.{sym, ap, ◌∙◌}
use native.Mathlib.Omega.{arith}
use Rattle.trailing_defs.specs.Size.{Trailing}
use Rattle.trailing_defs.specs.Calls.{size_offset_for}
use Rattle.trailing_defs.proofs.Calls.{size_offset_meets}
use Rattle.widths_defs.specs.Low.{mapped, low}
use Rattle.widths_defs.proofs.Sizes.{offset_low}
use Rattle.util_defs.proofs.Refusals.{means}
use Rattle.trailing32.proofs.size_offset.Goals as goal

pub returns-clause-answer : goal.returns-clause-answer
returns-clause-answer c =
    let q = c.wide_tail-wide.ensures in
    let t = trailing_of c.args.tail in c.low_number.ensures ∙ ap (mapped (low 32)) (c.size_offset.ensures.answer ∙ ap (λ (x : Trailing). size_offset_for 64 x) q.0)
    ∙ sym (offset_low 32 64 t (omega arith) q.1)

pub returns-clause-meaning : goal.returns-clause-meaning
returns-clause-meaning c =
    let q = c.wide_tail-wide.ensures in
    let t = trailing_of c.args.tail in means (size_offset_meets 32 t q.1.word) (returns-clause-answer c)
