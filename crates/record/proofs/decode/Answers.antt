-- `record::decode` meets its contract. Assumes nothing.
use mathlib.Core.Path.{refl, sym, ap, ◌∙◌}
use mathlib.Core.Logic.{inl}
use borrow.Author.Tests.{ne_eqb}
use native.Mathlib.Omega.{arith}
use lib.ListN.{length}
use Rattle.util_defs.specs.Refusal.{unless, refuses}
use Rattle.util_defs.proofs.Refusals.{told, told_true}
use Rattle.record_defs.specs.Record.{Words, words_at, FitsIn, words_for, own_for, decode_for}
use Rattle.record_defs.proofs.Records.{tells_fits, record_meets, own_words, decode_fits}
use Rattle.record.proofs.decode.Goals as goal

pub returns-then-s-eq-RECORD_BYTES-clause-answer : goal.returns-then-s-eq-RECORD_BYTES-clause-answer
returns-then-s-eq-RECORD_BYTES-clause-answer c =
    let s = c.args.s.now in
    let e = c.read_words.ensures in
    let f : FitsIn 64 (words_at s 0) = record {
      align = omega (arith, ap (λ (r : Words). r.align) e);
      size = omega (arith, ap (λ (r : Words). r.size) e);
      offset = omega (arith, ap (λ (r : Words). r.offset) e);
      elem = omega (arith, ap (λ (r : Words). r.elem) e);
      word = omega (arith, ap (λ (r : Words). r.word) e);
    } in
    let o = c.layout_from_words.ensures.answer ∙ ap (words_for 64) e ∙ sym (own_words s c.if-s-eq-RECORD_BYTES.true) in
    let x = told (record_meets 64 s (omega (arith, f.align))) (o ∙ sym (decode_fits 64 s (told_true (tells_fits 64 (words_at s 0)) f))) in x.0

pub returns-then-s-eq-RECORD_BYTES-clause-meaning : goal.returns-then-s-eq-RECORD_BYTES-clause-meaning
returns-then-s-eq-RECORD_BYTES-clause-meaning c =
    let s = c.args.s.now in
    let e = c.read_words.ensures in
    let f : FitsIn 64 (words_at s 0) = record {
      align = omega (arith, ap (λ (r : Words). r.align) e);
      size = omega (arith, ap (λ (r : Words). r.size) e);
      offset = omega (arith, ap (λ (r : Words). r.offset) e);
      elem = omega (arith, ap (λ (r : Words). r.elem) e);
      word = omega (arith, ap (λ (r : Words). r.word) e);
    } in
    let o = c.layout_from_words.ensures.answer ∙ ap (words_for 64) e ∙ sym (own_words s c.if-s-eq-RECORD_BYTES.true) in
    let x = told (record_meets 64 s (omega (arith, f.align))) (o ∙ sym (decode_fits 64 s (told_true (tells_fits 64 (words_at s 0)) f))) in x.1

pub returns-then-s-eq-RECORD_BYTES-clause-own : goal.returns-then-s-eq-RECORD_BYTES-clause-own
returns-then-s-eq-RECORD_BYTES-clause-own c =
    let s = c.args.s.now in
    let e = c.read_words.ensures in
    let o = c.layout_from_words.ensures.answer ∙ ap (words_for 64) e ∙ sym (own_words s c.if-s-eq-RECORD_BYTES.true) in
    o

pub returns-else-s-eq-RECORD_BYTES-clause-answer : goal.returns-else-s-eq-RECORD_BYTES-clause-answer
unfolding own_for decode_for unless
returns-else-s-eq-RECORD_BYTES-clause-answer c =
    let s = c.args.s.now in simp (ne_eqb (length s) 48 c.if-s-eq-RECORD_BYTES.false)

pub returns-else-s-eq-RECORD_BYTES-clause-meaning : goal.returns-else-s-eq-RECORD_BYTES-clause-meaning
unfolding own_for decode_for unless
returns-else-s-eq-RECORD_BYTES-clause-meaning c =
    refuses (inl (c.if-s-eq-RECORD_BYTES.false, refl))

pub returns-else-s-eq-RECORD_BYTES-clause-own : goal.returns-else-s-eq-RECORD_BYTES-clause-own
unfolding own_for decode_for unless
returns-else-s-eq-RECORD_BYTES-clause-own c =
    let s = c.args.s.now in simp (ne_eqb (length s) 48 c.if-s-eq-RECORD_BYTES.false)
