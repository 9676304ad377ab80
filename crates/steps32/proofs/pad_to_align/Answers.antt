-- `steps32::pad_to_align` meets its contract. Assumes nothing.
use Rattle.layout.specs.View.{layout_of}
use mathlib.Core.Path.{sym, ap, ◌∙◌}
use native.Mathlib.Omega.{arith}
use Rattle.util_defs.specs.Width.{M}
use Rattle.layout_defs.specs.Layout.{Layout}
use Rattle.padding_defs.specs.Pad.{pad_for}
use Rattle.padding_defs.proofs.Padding.{pad_meets}
use Rattle.widths_defs.specs.Low.{mapped}
use Rattle.widths_layouts_defs.specs.Low.{low_layout}
use Rattle.widths_layouts_defs.specs.Within.{pad_within}
use Rattle.widths_layouts_defs.proofs.Closing.{pad_low}
use Rattle.util_defs.proofs.Refusals.{means}
use Rattle.steps32.proofs.pad_to_align.Goals as goal

pub returns-clause-answer : goal.returns-clause-answer
returns-clause-answer c =
    let q = c.wide_layout.ensures in
    let l = layout_of c.args.layout in c.low_answer.ensures ∙ ap (mapped (low_layout 32)) (c.pad_within.ensures ∙ ap (λ (x : Layout). pad_within (M 32) (pad_for 64 x)) q.0)
    ∙ sym (pad_low 32 64 l (omega arith) q.1)

pub returns-clause-meaning : goal.returns-clause-meaning
returns-clause-meaning c =
    let q = c.wide_layout.ensures in
    let l = layout_of c.args.layout in means (pad_meets 32 l q.1.align) (returns-clause-answer c)
