-- `short::encode_short` meets its contract. Assumes nothing.
use mathlib.Core.Path.{ap, ◌∙◌}
use lib.ListN.{length}
use Rattle.layout.specs.View.{layout_of}
use Rattle.record_defs.specs.Record.{Words}
use Rattle.short_defs.specs.Short.{encode_short_words_for, encoded_short_words_into}
use Rattle.short_defs.proofs.Told.{short_words_encoded, encoded_short}
use Rattle.short.proofs.encode_short.Goals as goal

pub returns-clause-answer : goal.returns-clause-answer
returns-clause-answer c = let l = layout_of c.args.l in let s = c.args.out.now in c.encode_short_words.ensures.answer ∙ ap (λ (r : Words). encode_short_words_for r (length s)) c.words_from_layout.ensures ∙ short_words_encoded l (length s)

pub returns-clause-bytes : goal.returns-clause-bytes
returns-clause-bytes c = let l = layout_of c.args.l in let s = c.args.out.now in c.encode_short_words.ensures.bytes ∙ ap (λ (r : Words). encoded_short_words_into r s) c.words_from_layout.ensures ∙ encoded_short l s
