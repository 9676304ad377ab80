-- `elements32::for_array` meets its contract. Assumes nothing.
use Rattle.layout.specs.View.{layout_of}
use mathlib.Core.Path.{sym, ap, ◌∙◌}
use native.Mathlib.Omega.{arith}
use Rattle.util_defs.specs.Width.{M}
use Rattle.layout_defs.specs.Layout.{Layout}
use Rattle.describe_defs.specs.Elements.{array_for}
use Rattle.describe_defs.proofs.Elements.{array_meets}
use Rattle.widths_defs.specs.Low.{mapped}
use Rattle.widths_layouts_defs.specs.Low.{low_layout}
use Rattle.elements32.specs.Within.{array_within}
use Rattle.elements32.proofs.Narrowed.{array_low}
use Rattle.util_defs.proofs.Refusals.{means}
use Rattle.elements32.proofs.for_array.Goals as goal

pub returns-clause-answer : goal.returns-clause-answer
returns-clause-answer c =
    let q = c.wide_layout.ensures in
    let l = layout_of c.args.elem in
    let n = c.args.count in c.low_answer.ensures ∙ ap (mapped (low_layout 32)) (c.array_within.ensures ∙ ap (λ (x : Layout). array_within (M 32) (array_for 64 x n)) q.0)
    ∙ sym (array_low 32 64 l n (omega arith) q.1.align)

pub returns-clause-meaning : goal.returns-clause-meaning
returns-clause-meaning c =
    let q = c.wide_layout.ensures in
    let l = layout_of c.args.elem in
    let n = c.args.count in means (array_meets 32 l n q.1.align) (returns-clause-answer c)
