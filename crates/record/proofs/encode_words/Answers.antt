-- `record::encode_words` meets its contract. Assumes nothing.
use Rattle.util.proofs.Told.{handed_on}
use mathlib.Core.Path.{◌≡◌, ap, ◌∙◌}
use Prim.Native.Nat.{ℕ}
use lib.Seq.{sets}
use Rattle.util_defs.specs.Refusal.{Outcome, answered, unless}
use Rattle.util_defs.proofs.Tables.{told_by, accepted_as, refused_as}
use Rattle.layout_defs.specs.Layout.{Layout}
use Rattle.layout.specs.View.{layout_says}
use Rattle.record_defs.specs.Record.{Words, record_bytes, words_layout, words_causes, words_for, encode_words_for}
use Rattle.record.specs.View.{words_in}
use Rattle.record_defs.proofs.Records.{write_done, write_refused, write_other}
use Rattle.record_defs.proofs.RoundTrips.{words_kept}
use Rattle.record.proofs.encode_words.Goals as goal

-- words that are a layout are not refused
words_accepted : (w : ℕ) (r : Words) {l : Layout} → words_for w r ≡ answered l → ◌≡◌ {A = Outcome (Unit {0})} (unless (words_causes w r) tt) (answered tt)
unfolding words_for
words_accepted w r e = accepted_as (words_causes w r) (words_layout r) tt e

pub returns-in_ok-l : goal.returns-in_ok-l
unfolding encode_words_for
returns-in_ok-l c = let r = words_in c.args.w in
    let s = c.args.out.now in
    let e = told_by layout_says c.layout_from_words.ensures.answer c.in_ok-l.was in let told_here = write_done (words_causes 64 r) r s _ c.if-out-eq-RECORD_BYTES.true (words_accepted 64 r e) (c.put_words.ensures ∙ ap (λ (q : Words). sets s 0 (record_bytes q)) (c.words_from_layout.ensures ∙ words_kept 64 r e)) in record { answer = told_here.0; bytes = told_here.1 }

pub returns-in_err-l : goal.returns-in_err-l
unfolding encode_words_for words_for
returns-in_err-l c = let r = words_in c.args.w in
    let cs = words_causes 64 r in let told_here = write_refused cs r c.args.out.now c.if-out-eq-RECORD_BYTES.true (refused_as cs (words_layout r) tt (told_by layout_says c.layout_from_words.ensures.answer c.in_err-l.was)) in record { answer = handed_on _ c.from_residual.result _ c.from_residual.ensures.1 told_here.0; bytes = told_here.1 }

pub returns-else-out-eq-RECORD_BYTES : goal.returns-else-out-eq-RECORD_BYTES
unfolding encode_words_for
returns-else-out-eq-RECORD_BYTES c = let told_here = write_other (words_causes 64 (words_in c.args.w)) (words_in c.args.w) c.args.out.now c.if-out-eq-RECORD_BYTES.false in record { answer = told_here.0; bytes = told_here.1 }
