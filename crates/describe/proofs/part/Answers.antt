-- `describe::part` meets its contract. Assumes nothing.
use mathlib.Core.Path.{sym, ap, ◌∙◌}
use Rattle.util.proofs.Told.{handed_on_at}
use Rattle.width.specs.Width.{bits_of, target_of}
use Rattle.width.proofs.Steps.{scalars_at}
use Rattle.describe.specs.View.{part_in, stop_says}
use Rattle.describe.proofs.Ways.{part_told}
use Rattle.describe.proofs.part.Goals as goal

pub returns : goal.returns
returns g c =
    let k = g.W.AtWidth.narrow in
    let told_here = part_told (bits_of k) (target_of k) (scalars_at k) c.args.depth c.args.s.now c.args.at (sym (ap stop_says c.in_ok-read_part.was) ∙ c.read_part.ensures.answer) in
    record { answer = told_here.0; meaning = told_here.1 }

pub returns-in_err-read_part : goal.returns-in_err-read_part
returns-in_err-read_part g c =
    let k = g.W.AtWidth.narrow in
    let told_here = part_told (bits_of k) (target_of k) (scalars_at k) c.args.depth c.args.s.now c.args.at (handed_on_at part_in c.from_residual.result _ c.from_residual.ensures.1 (sym (ap stop_says c.in_err-read_part.was) ∙ c.read_part.ensures.answer)) in
    record { answer = told_here.0; meaning = told_here.1 }
