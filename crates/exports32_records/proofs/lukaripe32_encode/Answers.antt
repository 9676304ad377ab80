-- `exports32_records::lukaripe32_encode` meets its contract. Assumes nothing.
use mathlib.Core.Path.{ap, ◌∙◌}
use native.Mathlib.Omega.{arith}
use lib.ListN.{length}
use Rattle.record_defs.specs.Record.{Words, encode_words_for, encoded_words_into}
use Rattle.record32.proofs.Narrowed.{encode_words_same, encoded_words_same}
use Rattle.exports_layouts.specs.Layouts.{refusal_out}
use Rattle.exports32_layouts.specs.Layouts.{words_given32}
use Rattle.exports32_records.proofs.lukaripe32_encode.Goals as goal

pub returns-clause-value : goal.returns-clause-value
returns-clause-value c =
    let r = words_given32 c.args.layout in
    let n = length c.args.out.now in
    c.refusal_number.ensures ∙ ap refusal_out
    (c.encode_words.ensures.answer ∙ ap (λ (z : Words). encode_words_for 64 z n) c.from.ensures ∙ encode_words_same 64 32 r n (omega arith) (omega arith))

pub returns-clause-out_after : goal.returns-clause-out_after
returns-clause-out_after c =
    let r = words_given32 c.args.layout in
    let s = c.args.out.now in
    c.encode_words.ensures.bytes ∙ ap (λ (z : Words). encoded_words_into 64 z s) c.from.ensures ∙ encoded_words_same 64 32 r s (omega arith) (omega arith)
