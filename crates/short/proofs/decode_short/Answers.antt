-- `short::decode_short` meets its contract. Assumes nothing.
use mathlib.Core.Path.{sym, ap, ◌∙◌}
use borrow.Author.Tests.{ne_eqb}
use lib.ListN.{length}
use Rattle.util_defs.specs.Refusal.{unless}
use Rattle.record_defs.specs.Record.{words_layout}
use Rattle.short_defs.specs.Short.{Short, words_from, from_short_causes, decode_short_for}
use Rattle.short_defs.proofs.Told.{decode_short_words, decode_short_meets}
use Rattle.util_defs.proofs.Refusals.{means}
use Rattle.short.proofs.decode_short.Goals as goal

pub returns-then-s-eq-SHORT_BYTES-clause-answer : goal.returns-then-s-eq-SHORT_BYTES-clause-answer
returns-then-s-eq-SHORT_BYTES-clause-answer c = let s = c.args.s.now in c.layout_from_short.ensures ∙ ap (λ (r : Short). unless (from_short_causes r) (words_layout (words_from r))) c.read_short.ensures ∙ sym (decode_short_words s c.if-s-eq-SHORT_BYTES.true)

pub returns-then-s-eq-SHORT_BYTES-clause-meaning : goal.returns-then-s-eq-SHORT_BYTES-clause-meaning
returns-then-s-eq-SHORT_BYTES-clause-meaning c = let s = c.args.s.now in means (decode_short_meets s) (returns-then-s-eq-SHORT_BYTES-clause-answer c)

pub returns-else-s-eq-SHORT_BYTES-clause-answer : goal.returns-else-s-eq-SHORT_BYTES-clause-answer
unfolding decode_short_for unless
returns-else-s-eq-SHORT_BYTES-clause-answer c = let s = c.args.s.now in simp (ne_eqb (length s) 32 c.if-s-eq-SHORT_BYTES.false)

pub returns-else-s-eq-SHORT_BYTES-clause-meaning : goal.returns-else-s-eq-SHORT_BYTES-clause-meaning
returns-else-s-eq-SHORT_BYTES-clause-meaning c = let s = c.args.s.now in means (decode_short_meets s) (returns-else-s-eq-SHORT_BYTES-clause-answer c)
