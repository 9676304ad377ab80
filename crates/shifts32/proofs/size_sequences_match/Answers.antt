-- `shifts32::size_sequences_match` meets its contract. Assumes nothing.
use Rattle.trailing.specs.View.{trailing_of}
use mathlib.Core.Path.{sym, ap₂, ◌∙◌}
use mathlib.Core.Bool.{Bool}
use native.Mathlib.Omega.{arith}
use Rattle.util_defs.specs.Refusal.{Outcome}
use Rattle.trailing_defs.specs.Size.{Trailing}
use Rattle.shift_defs.specs.Match.{match_for}
use Rattle.shift_defs.specs.Mode.{comparison_of}
use Rattle.shift_defs.proofs.Matching.{mode-sound, match_meets}
use Rattle.shift.specs.View.{mode_of}
use Rattle.widths_defs.specs.Within.{same_within}
use Rattle.widths_converts_defs.proofs.Shifts.{match_narrows}
use Rattle.util_defs.proofs.Refusals.{means}
use Rattle.shifts32.proofs.size_sequences_match.Goals as goal

pub returns-clause-answer : goal.returns-clause-answer
returns-clause-answer c =
    let q = c.wide_tail-wide.ensures in
    let r = c.wide_tail-dst_wide.ensures in
    let s = trailing_of c.args.src in
    let t = trailing_of c.args.dst in
    let m = mode_of c.args.mode in
    let d = c.args.dst_base in c.same_within.ensures
    ∙ ap₂ (λ (b : Bool) (o : Outcome Bool). same_within b o) c.has_start-start.ensures
    (c.size_sequences_match.ensures.answer ∙ ap₂ (λ (x y : Trailing). match_for 64 (comparison_of 64 m) x y d) q.0 r.0)
    ∙ sym (match_narrows m 32 64 s t d (omega arith) q.1.word r.1.word)

pub returns-clause-meaning : goal.returns-clause-meaning
returns-clause-meaning c =
    let q = c.wide_tail-wide.ensures in
    let r = c.wide_tail-dst_wide.ensures in
    let s = trailing_of c.args.src in
    let t = trailing_of c.args.dst in
    let m = mode_of c.args.mode in
    let d = c.args.dst_base in means (match_meets 32 (comparison_of 32 m) s t d (mode-sound 32 m) q.1.word r.1.word) (returns-clause-answer c)
