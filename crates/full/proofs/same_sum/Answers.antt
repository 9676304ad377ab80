-- `full::same_sum` meets its contract. Assumes nothing.
use Rattle.std.proofs.Common.{◌≡◌, ◌+◌, sym, subst, arith}
use borrow.Author.Tests.{lt-leb, le-ltb}
use Rattle.util_defs.specs.Refusal.{Tells, fails}
use Rattle.full_defs.proofs.Told.{differences, differences_back}
use Rattle.full.proofs.same_sum.Goals as goal

pub returns-then-rounded2-rounded : goal.returns-then-rounded2-rounded
returns-then-rounded2-rounded c = let a = c.args in differences a.base a.rounded a.base2 a.rounded2 c.if-base-base2.true c.if-rounded2-rounded.true

pub returns-else-rounded2-rounded : goal.returns-else-rounded2-rounded
returns-else-rounded2-rounded c =
    let a = c.args in
    subst (Tells (a.base + a.rounded ≡ a.base2 + a.rounded2)) (sym (lt-leb a.rounded2 a.rounded (omega arith))) (fails (λ e. omega arith))

pub returns-then-rounded-rounded2 : goal.returns-then-rounded-rounded2
returns-then-rounded-rounded2 c = let a = c.args in differences_back a.base a.rounded a.base2 a.rounded2 (omega arith) (omega arith)

pub returns-else-rounded-rounded2 : goal.returns-else-rounded-rounded2
returns-else-rounded-rounded2 c =
    let a = c.args in
    subst (Tells (a.base + a.rounded ≡ a.base2 + a.rounded2)) (sym (le-ltb a.rounded a.rounded2 (omega arith))) (fails (λ e. omega arith))
