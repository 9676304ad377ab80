-- `layouts32::requires_dynamic_padding` meets its contract. Assumes nothing.
use Rattle.layout.specs.View.{layout_of}
use mathlib.Core.Path.{sym, ap, ◌∙◌}
use native.Mathlib.Omega.{arith}
use Rattle.padding_defs.specs.Pad.{dynamic_for}
use Rattle.padding_defs.proofs.Marks.{dynamic_meets}
use Rattle.widths_layouts_defs.proofs.Layouts.{dynamic_same}
use Rattle.util_defs.proofs.Refusals.{means}
use Rattle.layouts32.proofs.requires_dynamic_padding.Goals as goal

pub returns-clause-answer : goal.returns-clause-answer
returns-clause-answer c =
    let q = c.wide_layout.ensures in
    let l = layout_of c.args.layout in c.requires_dynamic_padding.ensures.answer ∙ ap (dynamic_for 64) q.0 ∙ sym (dynamic_same 32 64 l (omega arith) q.1)

pub returns-clause-meaning : goal.returns-clause-meaning
returns-clause-meaning c =
    let q = c.wide_layout.ensures in
    let l = layout_of c.args.layout in means (dynamic_meets 32 l q.1.align) (returns-clause-answer c)
