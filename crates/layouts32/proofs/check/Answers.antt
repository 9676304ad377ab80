-- `layouts32::check` meets its contract. Assumes nothing.
use Rattle.layout.specs.View.{layout_of}
use mathlib.Core.Path.{sym, ap, ◌∙◌}
use native.Mathlib.Omega.{arith}
use Rattle.layout_defs.specs.Layout.{check_for}
use Rattle.layout_defs.proofs.Layouts.{check_meets}
use Rattle.widths_layouts_defs.proofs.Layouts.{check_same, fits_width}
use Rattle.util_defs.proofs.Refusals.{means}
use Rattle.layouts32.proofs.check.Goals as goal

pub returns-clause-answer : goal.returns-clause-answer
returns-clause-answer c =
    let q = c.wide_layout-wide.ensures in
    let l = layout_of c.args.layout in c.check.ensures.answer ∙ ap (check_for 64) q.0 ∙ sym (check_same 32 64 l (omega arith) q.1.align)

pub returns-clause-meaning : goal.returns-clause-meaning
returns-clause-meaning c =
    let q = c.wide_layout-wide.ensures in
    let l = layout_of c.args.layout in means (check_meets 32 l (fits_width 32 l q.1)) (returns-clause-answer c)
