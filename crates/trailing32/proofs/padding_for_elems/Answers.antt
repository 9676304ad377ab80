-- `trailing32::padding_for_elems` meets its contract. Assumes nothing.
use Rattle.trailing.specs.View.{trailing_of}
use mathlib.Core.Path.{sym, ap, ◌∙◌}
use native.Mathlib.Omega.{arith}
use Rattle.trailing_defs.specs.Size.{Trailing}
use Rattle.trailing_defs.specs.Calls.{padding_for_elems}
use Rattle.trailing_defs.proofs.Calls.{padding_meets}
use Rattle.widths_defs.specs.Low.{mapped, low}
use Rattle.widths_defs.proofs.Sizes.{padding_for_elems_low}
use Rattle.util_defs.proofs.Refusals.{means}
use Rattle.trailing32.proofs.padding_for_elems.Goals as goal

pub returns-clause-answer : goal.returns-clause-answer
returns-clause-answer c =
    let q = c.wide_tail-wide.ensures in
    let t = trailing_of c.args.tail in c.low_number.ensures ∙ ap (mapped (low 32)) (c.padding_for_elems.ensures.answer ∙ ap (λ (x : Trailing). padding_for_elems 64 x c.args.elems) q.0)
    ∙ sym (padding_for_elems_low 32 64 t c.args.elems (omega arith) q.1.word)

pub returns-clause-meaning : goal.returns-clause-meaning
returns-clause-meaning c =
    let q = c.wide_tail-wide.ensures in
    let t = trailing_of c.args.tail in means (padding_meets 32 t c.args.elems q.1.word) (returns-clause-answer c)
