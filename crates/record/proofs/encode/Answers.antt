-- `record::encode` meets its contract. Assumes nothing.
use mathlib.Core.Path.{ap, ap₂, ◌∙◌}
use lib.ListN.{length}
use Rattle.util_defs.specs.Refusal.{Outcome}
use Rattle.layout.specs.View.{layout_of}
use Rattle.record_defs.specs.Record.{Words, record_bytes, after, encode_words_for}
use Rattle.record_defs.proofs.RoundTrips.{words_encoded}
use Rattle.record.proofs.encode.Goals as goal

pub returns-clause-answer : goal.returns-clause-answer
returns-clause-answer c = let l = layout_of c.args.l in
    let s = c.args.out.now in
    let e = ap (λ (r : Words). encode_words_for 64 r (length s)) c.words_from_layout.ensures ∙ words_encoded 64 l (length s) in c.encode_words.ensures.answer ∙ e

pub returns-clause-bytes : goal.returns-clause-bytes
returns-clause-bytes c = let l = layout_of c.args.l in
    let s = c.args.out.now in
    let e = ap (λ (r : Words). encode_words_for 64 r (length s)) c.words_from_layout.ensures ∙ words_encoded 64 l (length s) in c.encode_words.ensures.bytes ∙ ap₂ (λ (o : Outcome (Unit {0})) (r : Words). after o (record_bytes r) s) e c.words_from_layout.ensures
