-- `sequence32::has_same_size_sequence` meets its contract. Assumes nothing.
use Rattle.trailing.specs.View.{trailing_of}
use mathlib.Core.Path.{sym, ap₂, ◌∙◌}
use mathlib.Core.Bool.{Bool}
use native.Mathlib.Omega.{arith}
use Rattle.util_defs.specs.Refusal.{Outcome}
use Rattle.trailing_defs.specs.Calls.{same_for}
use Rattle.trailing_defs.proofs.Calls.{same_meets}
use Rattle.widths_defs.specs.Within.{same_within}
use Rattle.widths_defs.proofs.Sequences.{same_narrows}
use Rattle.util_defs.proofs.Refusals.{means}
use Rattle.sequence32.proofs.has_same_size_sequence.Goals as goal

pub returns-clause-answer : goal.returns-clause-answer
returns-clause-answer c =
    let q = c.wide_tail-wide.ensures in
    let r = c.wide_tail-other_wide.ensures in
    let s = trailing_of c.args.first in
    let t = trailing_of c.args.other in c.same_within.ensures
    ∙ ap₂ (λ (b : Bool) (o : Outcome Bool). same_within b o) c.has_start-start.ensures (c.has_same_size_sequence.ensures.answer ∙ ap₂ (same_for 64) q.0 r.0)
    ∙ sym (same_narrows 32 64 s t (omega arith) q.1.word r.1.word)

pub returns-clause-meaning : goal.returns-clause-meaning
returns-clause-meaning c =
    let q = c.wide_tail-wide.ensures in
    let r = c.wide_tail-other_wide.ensures in
    let s = trailing_of c.args.first in
    let t = trailing_of c.args.other in means (same_meets 32 s t q.1.word r.1.word) (returns-clause-answer c)
