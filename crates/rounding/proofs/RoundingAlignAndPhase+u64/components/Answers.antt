-- `rounding::RoundingAlignAndPhase::components` meets its contract. Assumes nothing.
use mathlib.Core.Path.{ap, ◌∙◌}
use Prim.Native.Nat.{ℕ}
use lib.Bits.{bit_xor}
use native.Mathlib.Omega.{arith}
use borrow.Author.Tests.{eq-eqb, ne_eqb}
use Rattle.util_defs.specs.Refusal.{answered, unless}
use Rattle.util_defs.proofs.Refusals.{means}
use Rattle.rounding.specs.Word.{align_of, components_for}
use Rattle.rounding.proofs.Words.{components_meets, parts_of_lem, top_bit, xor_phase, zeros_below}
use Rattle.rounding.proofs.RoundingAlignAndPhase+u64.components.Goals as goal

pub returns-then-word-eq0-clause-answer : goal.returns-then-word-eq0-clause-answer
unfolding components_for unless
returns-then-word-eq0-clause-answer c = simp (eq-eqb c.args.self.0 0 c.if-word-eq0.true)

pub returns-then-word-eq0-clause-meaning : goal.returns-then-word-eq0-clause-meaning
returns-then-word-eq0-clause-meaning c = means (components_meets 64 c.args.self.0 (omega arith)) (returns-then-word-eq0-clause-answer c)

pub overflow_sub-shift : goal.overflow_sub-shift
overflow_sub-shift c = zeros_below 64 c.args.self.0 (omega arith) (omega arith)

pub returns-clause-answer : goal.returns-clause-answer
unfolding components_for unless
returns-clause-answer c =
    let n = c.args.self.0 in ap (λ (a : ℕ). answered (record { align = a; phase = bit_xor n a })) (top_bit 64 n (omega arith) (omega arith))
    ∙ ap (λ (q : ℕ). answered (record { align = align_of 64 n; phase = q })) (xor_phase (parts_of_lem 64 n (omega arith) (omega arith))) ∙ simp (ne_eqb n 0 c.if-word-eq0.false)

pub returns-clause-meaning : goal.returns-clause-meaning
returns-clause-meaning c =
    let n = c.args.self.0 in means (components_meets 64 n (omega arith)) (returns-clause-answer c)
