-- `rewrite::rewrite` meets its contract. Assumes nothing.
use Rattle.util.proofs.Told.{handed_on_at}
use mathlib.Core.Path.{sym, ap, ◌∙◌}
use Rattle.width.specs.Width.{bits_of, target_of}
use Rattle.describe.specs.View.{read_says}
use Rattle.rewrite.specs.View.{way_of}
use Rattle.rewrite.proofs.Ends.{is_read, ends_unread}
use Rattle.rewrite.proofs.rewrite.Goals as goal

pub rewrite_read-requires : goal.rewrite_read-requires
rewrite_read-requires g c =
    is_read (bits_of g.W.AtWidth.narrow) (target_of g.W.AtWidth.narrow) c.args.description.now (sym (ap read_says c.in_ok-read.was) ∙ c.read.ensures.answer)

pub returns-in_err-read : goal.returns-in_err-read
returns-in_err-read g c = let told_here = ends_unread (bits_of g.W.AtWidth.narrow) (target_of g.W.AtWidth.narrow) (way_of c.args.way) c.args.description.now c.args.out.now (sym (ap read_says c.in_err-read.was) ∙ c.read.ensures.answer) in record { result_value = handed_on_at _ c.from_residual.result _ c.from_residual.ensures.1 told_here.0; out_after = told_here.1 }
