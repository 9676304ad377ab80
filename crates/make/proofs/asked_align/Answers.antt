-- `make::asked_align` meets its contract. Assumes nothing.
use borrow.Author.Tests.{eq-eqb, ne_eqb}
use Rattle.make.proofs.asked_align.Goals as goal

pub returns-then-repr_align-eq0 : goal.returns-then-repr_align-eq0
returns-then-repr_align-eq0 c = simp (eq-eqb c.args.repr_align 0 c.if-repr_align-eq0.true)

pub returns-else-repr_align-eq0 : goal.returns-else-repr_align-eq0
returns-else-repr_align-eq0 c = simp (ne_eqb c.args.repr_align 0 c.if-repr_align-eq0.false)
