-- `share::padding_share` meets its contract. Assumes nothing.
use borrow.Author.Tests.{eq-eqb, ne_eqb}
use Rattle.share.proofs.padding_share.Goals as goal

pub returns-then-sizes-eq0 : goal.returns-then-sizes-eq0
returns-then-sizes-eq0 c = simp (eq-eqb c.args.sizes 0 c.if-sizes-eq0.true)

pub returns-else-sizes-eq0 : goal.returns-else-sizes-eq0
returns-else-sizes-eq0 c = simp (ne_eqb c.args.sizes 0 c.if-sizes-eq0.false) c.lowest_terms.ensures
