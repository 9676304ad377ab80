-- `rewrite::shorten_counts` meets its contract. Assumes nothing.
use Rattle.width.specs.Width.{bits_of, target_of}
use Rattle.rewrite_defs.specs.Rewrite.{shorter}
use Rattle.rewrite.proofs.Ends.{told}
use Rattle.rewrite.proofs.shorten_counts.Goals as goal

pub returns : goal.returns
returns g c = let told_here = told (bits_of g.W.AtWidth.narrow) (target_of g.W.AtWidth.narrow) shorter c.args.description.now c.args.out.now c.rewrite.ensures.result_value c.rewrite.ensures.out_after in record { answer = told_here.0; bytes = told_here.1.0; meaning = told_here.1.1 }
