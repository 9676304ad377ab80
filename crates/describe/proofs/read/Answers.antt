-- `describe::read` meets its contract. Assumes nothing.
use Rattle.std.proofs.Common.{sym, ap, ◌∙◌}
use Rattle.util.proofs.Told.{handed_on_at}
use Rattle.layout.specs.View.{layout_of}
use Rattle.describe.specs.View.{part_says}
use Rattle.describe.proofs.Ways.{whole_told, whole_on, whole_over, whole_off}
use Rattle.width.specs.Width.{bits_of, target_of}
use Rattle.width.proofs.Steps.{scalars_at}
use Rattle.describe.proofs.read.Goals as goal

pub returns-then-next-description : goal.returns-then-next-description
returns-then-next-description g c = let told_here = whole_told (bits_of g.W.AtWidth.narrow) (target_of g.W.AtWidth.narrow) (scalars_at g.W.AtWidth.narrow) c.args.description.now (whole_on (bits_of g.W.AtWidth.narrow) (target_of g.W.AtWidth.narrow) c.args.description.now (sym c.part.ensures.answer ∙ ap part_says c.in_ok-layout.was) c.if-next-description.true) in record { answer = told_here.0; meaning = told_here.1 }

pub returns-else-next-description : goal.returns-else-next-description
returns-else-next-description g c = let told_here = whole_told (bits_of g.W.AtWidth.narrow) (target_of g.W.AtWidth.narrow) (scalars_at g.W.AtWidth.narrow) c.args.description.now (whole_over (bits_of g.W.AtWidth.narrow) (target_of g.W.AtWidth.narrow) c.args.description.now (sym c.part.ensures.answer ∙ ap part_says c.in_ok-layout.was) c.if-next-description.false) in record { answer = told_here.0; meaning = told_here.1 }

pub returns-in_err-layout : goal.returns-in_err-layout
returns-in_err-layout g c =
    let w = bits_of g.W.AtWidth.narrow in
    let t = target_of g.W.AtWidth.narrow in
    let s = c.args.description.now in
    let told_here = whole_told w t (scalars_at g.W.AtWidth.narrow) s (handed_on_at layout_of c.from_residual.result _ c.from_residual.ensures.1 (whole_off w t s (sym c.part.ensures.answer ∙ ap part_says c.in_err-layout.was))) in
    record { answer = told_here.0; meaning = told_here.1 }
