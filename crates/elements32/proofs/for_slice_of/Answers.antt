-- `elements32::for_slice_of` meets its contract. Assumes nothing.
use Rattle.layout.specs.View.{layout_of}
use mathlib.Core.Path.{sym, ap, ◌∙◌}
use native.Mathlib.Omega.{arith}
use Rattle.describe_defs.specs.Elements.{slice_of_for}
use Rattle.describe_defs.proofs.Elements.{slice_meets}
use Rattle.widths_defs.specs.Low.{mapped}
use Rattle.widths_layouts_defs.specs.Low.{low_layout}
use Rattle.elements32.proofs.Narrowed.{slice_low}
use Rattle.util_defs.proofs.Refusals.{means}
use Rattle.elements32.proofs.for_slice_of.Goals as goal

pub returns-clause-answer : goal.returns-clause-answer
returns-clause-answer c =
    let q = c.wide_layout.ensures in
    let l = layout_of c.args.elem in c.low_answer.ensures ∙ ap (mapped (low_layout 32)) (c.for_slice_of.ensures.answer ∙ ap (slice_of_for 64) q.0)
    ∙ sym (slice_low 32 64 l (omega arith) q.1)

pub returns-clause-meaning : goal.returns-clause-meaning
returns-clause-meaning c =
    let q = c.wide_layout.ensures in
    let l = layout_of c.args.elem in means (slice_meets 32 l q.1.align) (returns-clause-answer c)
