-- `trailing32::max_trailing_bytes` meets its contract. Assumes nothing.
use Rattle.trailing.specs.View.{trailing_of}
use mathlib.Core.Path.{sym, ap, ◌∙◌}
use native.Mathlib.Omega.{arith}
use Rattle.trailing_defs.specs.Size.{Trailing}
use Rattle.trailing_defs.specs.Calls.{max_trailing_for}
use Rattle.trailing_defs.proofs.Calls.{max_trailing_meets}
use Rattle.widths_defs.specs.Low.{mapped, low}
use Rattle.widths_defs.proofs.Sizes.{room_low}
use Rattle.util_defs.proofs.Refusals.{means}
use Rattle.trailing32.proofs.max_trailing_bytes.Goals as goal

pub returns-clause-answer : goal.returns-clause-answer
returns-clause-answer c =
    let q = c.wide_tail-wide.ensures in
    let t = trailing_of c.args.tail in c.low_number.ensures ∙ ap (mapped (low 32)) (c.max_trailing_bytes.ensures.answer ∙ ap (λ (x : Trailing). max_trailing_for 64 x c.args.available_bytes) q.0)
    ∙ sym (room_low 32 64 t c.args.available_bytes (omega arith) q.1.word (omega arith))

pub returns-clause-meaning : goal.returns-clause-meaning
returns-clause-meaning c =
    let q = c.wide_tail-wide.ensures in
    let t = trailing_of c.args.tail in means (max_trailing_meets 32 t c.args.available_bytes q.1.word) (returns-clause-answer c)
