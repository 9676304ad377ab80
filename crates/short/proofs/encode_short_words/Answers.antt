-- `short::encode_short_words` meets its contract. Assumes nothing.
use Rattle.util.proofs.Told.{handed_on}
use mathlib.Core.Path.{refl, sym, ap, subst, ◌∙◌}
use native.Mathlib.Omega.{arith}
use lib.ListN.{length}
use lib.Seq.{sets}
use Rattle.util_defs.proofs.Tables.{told_by, accepted_none}
use Rattle.layout.specs.View.{layout_of, layout_says}
use Rattle.layout_defs.specs.Layout.{layout_causes, check_for}
use Rattle.layout_defs.proofs.Layouts.{layout_decided}
use Rattle.record_defs.specs.Record.{words_of}
use Rattle.record_defs.proofs.RoundTrips.{words_kept, words_accepted}
use Rattle.record.specs.View.{words_in}
use Rattle.short_defs.specs.Short.{Short, short_bytes, short_of}
use Rattle.short_defs.proofs.Fields.{Holds}
use Rattle.short_defs.proofs.Told.{encode_short_own, encode_short_above, encode_short_on, encode_short_length, short_written, short_kept, short_held}
use Rattle.short.proofs.encode_short_words.Goals as goal

pub invariant_of-short_of : goal.invariant_of-short_of
unfolding check_for
invariant_of-short_of c =
    let l = layout_of c.in_ok-l.l in
    let e = words_accepted 64 (words_in c.args.w) (told_by layout_says c.layout_from_words.ensures.answer c.in_ok-l.was) in
    record { accepted = accepted_none (layout_causes 64 l) tt (layout_decided 64 l (omega arith)) e }

pub put_short-requires : goal.put_short-requires
put_short-requires c = let l = layout_of c.in_ok-l.l in let e = told_by layout_says c.layout_from_words.ensures.answer c.in_ok-l.was in (omega (arith, c.if-out-eq-SHORT_BYTES.true), subst Holds (sym c.short_of.ensures) (short_held l (words_of l) refl (words_accepted 64 (words_in c.args.w) e) (sym c.fits_short.ensures ∙ c.if-fits_short.true) (omega (arith, ap (λ (z : Short). z.size) c.short_of.ensures)) (omega (arith, ap (λ (z : Short). z.offset) c.short_of.ensures)) (omega (arith, ap (λ (z : Short). z.elem) c.short_of.ensures))))

pub returns-then-fits_short-clause-answer : goal.returns-then-fits_short-clause-answer
returns-then-fits_short-clause-answer c = let r = words_in c.args.w in let s = c.args.out.now in let e = told_by layout_says c.layout_from_words.ensures.answer c.in_ok-l.was in let o = encode_short_on r (length s) c.if-out-eq-SHORT_BYTES.true e (sym c.fits_short.ensures ∙ c.if-fits_short.true) in sym o

pub returns-then-fits_short-clause-bytes : goal.returns-then-fits_short-clause-bytes
returns-then-fits_short-clause-bytes c = let r = words_in c.args.w in let s = c.args.out.now in let e = told_by layout_says c.layout_from_words.ensures.answer c.in_ok-l.was in let o = encode_short_on r (length s) c.if-out-eq-SHORT_BYTES.true e (sym c.fits_short.ensures ∙ c.if-fits_short.true) in c.put_short.ensures ∙ ap (λ (z : Short). sets s 0 (short_bytes z)) (c.short_of.ensures ∙ ap short_of (words_kept 64 r e)) ∙ short_written r s c.if-out-eq-SHORT_BYTES.true o

pub returns-else-fits_short-clause-answer : goal.returns-else-fits_short-clause-answer
returns-else-fits_short-clause-answer c = let r = words_in c.args.w in let s = c.args.out.now in let o = encode_short_above r (length s) c.if-out-eq-SHORT_BYTES.true (told_by layout_says c.layout_from_words.ensures.answer c.in_ok-l.was) (sym c.fits_short.ensures ∙ c.if-fits_short.false) in sym o

pub returns-else-fits_short-clause-bytes : goal.returns-else-fits_short-clause-bytes
returns-else-fits_short-clause-bytes c = let r = words_in c.args.w in let s = c.args.out.now in let o = encode_short_above r (length s) c.if-out-eq-SHORT_BYTES.true (told_by layout_says c.layout_from_words.ensures.answer c.in_ok-l.was) (sym c.fits_short.ensures ∙ c.if-fits_short.false) in short_kept r s o

pub returns-in_err-l-clause-answer : goal.returns-in_err-l-clause-answer
returns-in_err-l-clause-answer c = let r = words_in c.args.w in let s = c.args.out.now in let o = encode_short_own r (length s) c.if-out-eq-SHORT_BYTES.true (told_by layout_says c.layout_from_words.ensures.answer c.in_err-l.was) in handed_on _ c.from_residual.result _ c.from_residual.ensures.1 (sym o)

pub returns-in_err-l-clause-bytes : goal.returns-in_err-l-clause-bytes
returns-in_err-l-clause-bytes c = let r = words_in c.args.w in let s = c.args.out.now in let o = encode_short_own r (length s) c.if-out-eq-SHORT_BYTES.true (told_by layout_says c.layout_from_words.ensures.answer c.in_err-l.was) in (short_kept r s o)

pub returns-else-out-eq-SHORT_BYTES-clause-answer : goal.returns-else-out-eq-SHORT_BYTES-clause-answer
returns-else-out-eq-SHORT_BYTES-clause-answer c = let r = words_in c.args.w in let s = c.args.out.now in let o = encode_short_length r (length s) c.if-out-eq-SHORT_BYTES.false in sym o

pub returns-else-out-eq-SHORT_BYTES-clause-bytes : goal.returns-else-out-eq-SHORT_BYTES-clause-bytes
returns-else-out-eq-SHORT_BYTES-clause-bytes c = let r = words_in c.args.w in let s = c.args.out.now in let o = encode_short_length r (length s) c.if-out-eq-SHORT_BYTES.false in short_kept r s o
