-- `sequence::same_sequence` meets its contract. Assumes nothing.
use Rattle.std.proofs.Common.{sym, ◌∙◌, arith, eq-eqb, ne_eqb}
use borrow.Author.Tests.{eqb-true}
use Rattle.util_defs.proofs.Powers.{double}
use Rattle.rounding.proofs.Words.{at_parts}
use Rattle.trailing_defs.specs.Size.{A, p}
use Rattle.trailing_defs.specs.Sequence.{same_stride, same_sequence}
use Rattle.trailing.specs.View.{trailing_of}
use Rattle.sequence.proofs.same_sequence.Goals as goal
use Rattle.sequence.proofs.same_sequence.Goals.{then-first-other, else-first-other}

pub returns-then-same_start : goal.returns-then-same_start
unfolding same_sequence
returns-then-same_start c =
    let s = trailing_of c.args.first.layout in
    let t = trailing_of c.args.other.layout in
    elim c.if-first-other.branch [
      | then-first-other w ↦
          c.same_stride.ensures
          ∙ sym (at_parts 64 (λ a q. same_stride s.elem a q c.args.other.parts.align c.args.other.parts.phase) c.args.first.is_word (omega arith))
          ∙ sym (at_parts 64 (λ a q. same_stride s.elem (A 64 s) (p 64 s) a q) c.args.other.is_word (omega (arith, double 64 c.args.other.is_word.power (omega arith), c.args.other.is_word.sum, c.args.other.is_word.below)))
          ∙ simp (eq-eqb s.elem t.elem w.if-first-other.true, sym w.same_start.ensures ∙ (sym w.value-is ∙ c.if-same_start.true))
      | else-first-other w ↦ absurd (w.if-first-other.false (eqb-true s.elem t.elem (sym w.value-is ∙ c.if-same_start.true)))
    ]

pub returns-else-same_start : goal.returns-else-same_start
unfolding same_sequence
returns-else-same_start c =
    let s = trailing_of c.args.first.layout in
    let t = trailing_of c.args.other.layout in
    elim c.if-first-other.branch [
      | then-first-other w ↦ c.if-same_start.false ∙ simp (eq-eqb s.elem t.elem w.if-first-other.true, sym w.same_start.ensures ∙ (sym w.value-is ∙ c.if-same_start.false))
      | else-first-other w ↦ c.if-same_start.false ∙ simp (ne_eqb s.elem t.elem w.if-first-other.false)
    ]
