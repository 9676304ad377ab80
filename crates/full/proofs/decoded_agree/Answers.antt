-- `full::decoded_agree` meets its contract. Assumes nothing.
use mathlib.Core.Path.{sym, ap, ◌∙◌}
use Prim.Native.Nat.{ℕ, ◌+◌}
use native.Mathlib.Omega.{arith}
use borrow.Author.Tests.{ne_eqb}
use Rattle.util_defs.proofs.Refusals.{yes, no}
use Rattle.trailing.specs.View.{trailing_of}
use Rattle.full_defs.specs.Full.{sizes_agree}
use Rattle.full_defs.proofs.Told.{agree_apart, agree_steps, word_fits}
use Rattle.full.proofs.decoded_agree.Goals as goal

pub returns-then-elem-other : goal.returns-then-elem-other
unfolding sizes_agree
returns-then-elem-other c = simp (ne_eqb c.args.first.layout.elem_size c.args.other.layout.elem_size c.if-elem-other.true)

pub returns-then-same_sum : goal.returns-then-same_sum
returns-then-same_sum c =
    let s = trailing_of c.args.first.layout in
    let t = trailing_of c.args.other.layout in
    let z = yes c.same_sum.ensures c.if-same_sum.true in
    c.same_steps.ensures
    ∙ agree_steps 64 s t c.args.first.is_word c.args.other.is_word (omega arith) (word_fits 64 c.args.other.is_word (omega arith)) c.if-elem-other.false
    (ap (λ (u : ℕ). s.base + u) (sym c.rounded_phase-rounded.ensures) ∙ z ∙ ap (λ (u : ℕ). t.base + u) c.rounded_phase-rounded2.ensures)

pub returns-else-same_sum : goal.returns-else-same_sum
returns-else-same_sum c =
    let s = trailing_of c.args.first.layout in
    let t = trailing_of c.args.other.layout in
    let n = no c.same_sum.ensures c.if-same_sum.false in
    c.if-same_sum.false ∙ agree_apart 64 s t c.args.first.is_word c.args.other.is_word (omega arith) (word_fits 64 c.args.other.is_word (omega arith)) c.if-elem-other.false
    (λ z. n (ap (λ (u : ℕ). s.base + u) c.rounded_phase-rounded.ensures ∙ z ∙ ap (λ (u : ℕ). t.base + u) (sym c.rounded_phase-rounded2.ensures)))
