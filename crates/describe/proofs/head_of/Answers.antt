-- `describe::head_of` meets its contract. Assumes nothing.
use mathlib.Core.Path.{subst, ap, ◌∙◌}
use Prim.Native.Nat.{ℕ}
use Rattle.describe_defs.specs.Heads.{head_at, HeadMeans}
use Rattle.heads.specs.View.{head_says}
use Rattle.describe.proofs.head_of.Goals as goal

pub returns-clause-answer : goal.returns-clause-answer
returns-clause-answer g c =
    let e = c.bits.ensures in c.head.ensures.answer ∙ ap (λ (b : ℕ). head_at b c.args.depth c.args.s.now c.args.at) e

pub returns-clause-meaning : goal.returns-clause-meaning
returns-clause-meaning g c =
    let e = c.bits.ensures in subst (λ (b : ℕ). HeadMeans b c.args.depth c.args.s.now c.args.at (head_says c.head.result)) e c.head.ensures.meaning
