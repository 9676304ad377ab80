-- `sequence32::sizes_agree` meets its contract. Assumes nothing.
use Rattle.trailing.specs.View.{trailing_of}
use mathlib.Core.Path.{sym, ap₂, ◌∙◌}
use native.Mathlib.Omega.{arith}
use Rattle.full_defs.specs.Full.{agree_for}
use Rattle.full_defs.proofs.Full.{agree_meets}
use Rattle.widths_defs.proofs.Forms.{agree_same}
use Rattle.util_defs.proofs.Refusals.{means}
use Rattle.sequence32.proofs.sizes_agree.Goals as goal

pub returns-clause-answer : goal.returns-clause-answer
returns-clause-answer c =
    let q = c.wide_tail.ensures in
    let r = c.wide_tail-2.ensures in
    let s = trailing_of c.args.first in
    let t = trailing_of c.args.other in c.sizes_agree.ensures.answer ∙ ap₂ (agree_for 64) q.0 r.0 ∙ sym (agree_same 32 64 s t (omega arith) q.1.word r.1.word)

pub returns-clause-meaning : goal.returns-clause-meaning
returns-clause-meaning c =
    let q = c.wide_tail.ensures in
    let r = c.wide_tail-2.ensures in
    let s = trailing_of c.args.first in
    let t = trailing_of c.args.other in means (agree_meets 32 s t q.1.word r.1.word) (returns-clause-answer c)
