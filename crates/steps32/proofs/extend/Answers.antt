-- `steps32::extend` meets its contract. Assumes nothing.
use Rattle.layout.specs.View.{layout_of}
use mathlib.Core.Path.{sym, ap, ap₂, ◌∙◌}
use native.Mathlib.Omega.{arith}
use Rattle.util_defs.specs.Width.{M}
use Rattle.layout_defs.specs.Layout.{Layout}
use Rattle.layout_defs.specs.Extend.{extend_for}
use Rattle.layout_defs.proofs.Steps.{extend_meets}
use Rattle.widths_defs.specs.Low.{mapped}
use Rattle.widths_layouts_defs.specs.Low.{low_layout}
use Rattle.widths_layouts_defs.specs.Within.{step_within}
use Rattle.widths_layouts_defs.proofs.Step.{extend_low}
use Rattle.util_defs.proofs.Refusals.{means}
use Rattle.steps32.proofs.extend.Goals as goal

pub returns-clause-answer : goal.returns-clause-answer
returns-clause-answer c =
    let q = c.wide_layout.ensures in
    let r = c.wide_layout-2.ensures in
    let l = layout_of c.args.own in
    let m = layout_of c.args.field in
    let z = c.args.repr_packed in c.low_answer.ensures
    ∙ ap (mapped (low_layout 32)) (c.extend_within.ensures ∙ ap₂ (λ (a b : Layout). step_within (M 32) b.info (extend_for 64 a b z)) q.0 r.0)
    ∙ sym (extend_low 32 64 l m z (omega arith) q.1 r.1 (omega arith))

pub returns-clause-meaning : goal.returns-clause-meaning
returns-clause-meaning c =
    let q = c.wide_layout.ensures in
    let r = c.wide_layout-2.ensures in
    let l = layout_of c.args.own in
    let m = layout_of c.args.field in
    let z = c.args.repr_packed in means (extend_meets 32 l m z q.1.align r.1.align (omega arith)) (returns-clause-answer c)
