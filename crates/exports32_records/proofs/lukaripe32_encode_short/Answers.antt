-- `exports32_records::lukaripe32_encode_short` meets its contract. Assumes nothing.
use mathlib.Core.Path.{ap, ◌∙◌}
use lib.ListN.{length}
use Rattle.record_defs.specs.Record.{Words}
use Rattle.short_defs.specs.Short.{encode_short_words_for, encoded_short_words_into}
use Rattle.exports_layouts.specs.Layouts.{refusal_out}
use Rattle.exports32_records.proofs.lukaripe32_encode_short.Goals as goal

pub returns-clause-value : goal.returns-clause-value
returns-clause-value c =
    c.refusal_number.ensures ∙ ap refusal_out
    (c.encode_short_words.ensures.answer ∙ ap (λ (z : Words). encode_short_words_for z (length c.args.out.now)) c.from.ensures)

pub returns-clause-out_after : goal.returns-clause-out_after
returns-clause-out_after c = c.encode_short_words.ensures.bytes ∙ ap (λ (z : Words). encoded_short_words_into z c.args.out.now) c.from.ensures
