-- `layouts32::requires_static_padding` meets its contract. Assumes nothing.
use Rattle.layout.specs.View.{layout_of}
use mathlib.Core.Path.{sym, ap, ◌∙◌}
use native.Mathlib.Omega.{arith}
use Rattle.padding_defs.specs.Pad.{static_for}
use Rattle.padding_defs.proofs.Marks.{static_meets}
use Rattle.widths_layouts_defs.proofs.Layouts.{static_same}
use Rattle.util_defs.proofs.Refusals.{means}
use Rattle.layouts32.proofs.requires_static_padding.Goals as goal

pub returns-clause-answer : goal.returns-clause-answer
returns-clause-answer c =
    let q = c.wide_layout.ensures in
    let l = layout_of c.args.layout in c.requires_static_padding.ensures.answer ∙ ap (static_for 64) q.0 ∙ sym (static_same 32 64 l (omega arith) q.1.align)

pub returns-clause-meaning : goal.returns-clause-meaning
returns-clause-meaning c =
    let q = c.wide_layout.ensures in
    let l = layout_of c.args.layout in means (static_meets 32 l q.1.align) (returns-clause-answer c)
