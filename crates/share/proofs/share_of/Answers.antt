-- `share::share_of` meets its contract. Assumes nothing.

use Rattle.share.proofs.share_of.Goals as goal

pub returns : goal.returns
returns c = let x = c.args.x in
    λ i. record { padding = c.padding_share.ensures i; mean = c.lowest_terms.ensures i; greatest = x.greatest; index = x.index }
