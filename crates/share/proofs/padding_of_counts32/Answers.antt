-- `share::padding_of_counts32` meets its contract. Assumes nothing.
use Rattle.trailing.specs.View.{trailing_of}
use mathlib.Core.Path.{sym, ap, ◌∙◌}
use native.Mathlib.Omega.{arith}
use Rattle.util_defs.specs.Placed.{Placed, reached, go_on}
use Rattle.share_defs.specs.Share.{Share}
use Rattle.share_defs.proofs.Meaning.{sums_some}
use Rattle.share_defs.proofs.Told.{share_of_sums, share_told}
use Rattle.share.specs.View.{low_share}
use Rattle.share.proofs.Narrowed.{share_low}
use Rattle.share.proofs.padding_of_counts32.Goals as goal

pub share_of_sums-requires : goal.share_of_sums-requires
share_of_sums-requires c = λ x e. sums_some 32 (trailing_of c.args.layout) c.args.counts.now {x = x} (sym c.sums_of_counts32.ensures ∙ e)

pub returns : goal.returns
returns c =
    let t = trailing_of c.args.layout in
    let s = c.args.counts.now in let told_here = share_told 32 t s (c.low_answer.ensures ∙ ap (λ (o : Placed Share). go_on o (λ x. reached (low_share 32 x))) (c.share_of_sums.ensures ∙ share_of_sums 32 t s c.sums_of_counts32.ensures) ∙ share_low 32 t s (omega arith)) in record { answer = told_here.0; meaning = told_here.1 }
