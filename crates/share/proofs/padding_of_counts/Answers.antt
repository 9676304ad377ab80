-- `share::padding_of_counts` meets its contract. Assumes nothing.
use mathlib.Core.Path.{sym, ◌∙◌}
use Rattle.trailing.specs.View.{trailing_of}
use Rattle.share_defs.proofs.Meaning.{sums_some}
use Rattle.share_defs.proofs.Told.{share_of_sums, share_told}
use Rattle.share.proofs.padding_of_counts.Goals as goal

pub share_of_sums-requires : goal.share_of_sums-requires
share_of_sums-requires c = λ x e. sums_some 64 (trailing_of c.args.layout) c.args.counts.now {x = x} (sym c.sums_of_counts.ensures ∙ e)

pub returns : goal.returns
returns c =
    let t = trailing_of c.args.layout in
    let s = c.args.counts.now in let told_here = share_told 64 t s (c.share_of_sums.ensures ∙ share_of_sums 64 t s c.sums_of_counts.ensures) in record { answer = told_here.0; meaning = told_here.1 }
