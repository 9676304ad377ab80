-- `trailing32::advance` meets its contract. Assumes nothing.
use Rattle.trailing.specs.View.{trailing_of}
use mathlib.Core.Path.{sym, ap, ◌∙◌}
use native.Mathlib.Omega.{arith}
use Rattle.util_defs.specs.Width.{M}
use Rattle.util_defs.specs.Refusal.{Outcome}
use Rattle.trailing_defs.specs.Size.{Trailing}
use Rattle.trailing_defs.specs.Calls.{advance_for}
use Rattle.trailing_defs.proofs.Calls.{advance_meets}
use Rattle.widths_defs.specs.Low.{mapped, low_tail}
use Rattle.widths_defs.specs.Within.{advance_within}
use Rattle.widths_defs.proofs.Sizes.{advance_low}
use Rattle.util_defs.proofs.Refusals.{means}
use Rattle.trailing32.proofs.advance.Goals as goal

pub returns-clause-answer : goal.returns-clause-answer
returns-clause-answer c =
    let q = c.wide_tail.ensures in
    let t = trailing_of c.args.tail in
    let y = c.args.bytes in
    let e = c.args.elem_size in c.advance_within.ensures
    ∙ ap (λ (o : Outcome Trailing). mapped (low_tail 32) (advance_within (M 32) o)) (c.advance.ensures.answer ∙ ap (λ (x : Trailing). advance_for 64 x y e) q.0)
    ∙ sym (advance_low 32 64 t y e (omega arith) q.1 (omega arith))

pub returns-clause-meaning : goal.returns-clause-meaning
returns-clause-meaning c =
    let q = c.wide_tail.ensures in
    let t = trailing_of c.args.tail in
    let y = c.args.bytes in
    let e = c.args.elem_size in means (advance_meets 32 t y e q.1.word) (returns-clause-answer c)
