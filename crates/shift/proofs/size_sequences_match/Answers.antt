-- `shift::size_sequences_match` meets its contract. Assumes nothing.
use mathlib.Core.Path.{sym, ap, ◌∙◌}
use native.Mathlib.Omega.{arith}
use borrow.Author.Tests.{eq-eqb, ne_eqb}
use Rattle.util_defs.specs.Refusal.{answered, unless}
use Rattle.trailing.specs.View.{trailing_of}
use Rattle.shift_defs.specs.Match.{match_test, match_for}
use Rattle.shift_defs.proofs.Matching.{mode-sound, match_meets}
use Rattle.shift_defs.specs.Mode.{comparison_of}
use Rattle.shift.specs.declared.Mode.{Mode}
use Rattle.shift.specs.View.{mode_of}
use Rattle.util_defs.proofs.Refusals.{means}
use Rattle.shift.proofs.size_sequences_match.Goals as goal

pub returns-then-src_word-eq0-clause-answer : goal.returns-then-src_word-eq0-clause-answer
unfolding match_for unless
returns-then-src_word-eq0-clause-answer c =
    let s = trailing_of c.args.src in
    simp (eq-eqb s.word 0 c.if-src_word-eq0.true)

pub returns-then-src_word-eq0-clause-meaning : goal.returns-then-src_word-eq0-clause-meaning
returns-then-src_word-eq0-clause-meaning c =
    let s = trailing_of c.args.src in
    let t = trailing_of c.args.dst in
    let d = c.args.dst_base in means (match_meets 64 (comparison_of 64 (mode_of c.args.mode)) s t d (mode-sound 64 (mode_of c.args.mode)) (omega arith) (omega arith)) (returns-then-src_word-eq0-clause-answer c)

pub returns-then-dst_word-eq0-clause-answer : goal.returns-then-dst_word-eq0-clause-answer
unfolding match_for unless
returns-then-dst_word-eq0-clause-answer c =
    let s = trailing_of c.args.src in
    let t = trailing_of c.args.dst in
    simp (ne_eqb s.word 0 c.if-src_word-eq0.false, eq-eqb t.word 0 c.if-dst_word-eq0.true)

pub returns-then-dst_word-eq0-clause-meaning : goal.returns-then-dst_word-eq0-clause-meaning
returns-then-dst_word-eq0-clause-meaning c =
    let s = trailing_of c.args.src in
    let t = trailing_of c.args.dst in
    let d = c.args.dst_base in means (match_meets 64 (comparison_of 64 (mode_of c.args.mode)) s t d (mode-sound 64 (mode_of c.args.mode)) (omega arith) (omega arith)) (returns-then-dst_word-eq0-clause-answer c)

pub returns-in-Ported-clause-answer : goal.returns-in-Ported-clause-answer
unfolding match_for unless
returns-in-Ported-clause-answer c =
    let s = trailing_of c.args.src in
    let t = trailing_of c.args.dst in
    let d = c.args.dst_base in ap answered (c.matches.ensures ∙ ap (λ (m : Mode). match_test 64 (comparison_of 64 (mode_of m)) s t d) (sym c.in-Ported.is))
    ∙ simp (ne_eqb s.word 0 c.if-src_word-eq0.false, ne_eqb t.word 0 c.if-dst_word-eq0.false)

pub returns-in-Ported-clause-meaning : goal.returns-in-Ported-clause-meaning
returns-in-Ported-clause-meaning c =
    let s = trailing_of c.args.src in
    let t = trailing_of c.args.dst in
    let d = c.args.dst_base in means (match_meets 64 (comparison_of 64 (mode_of c.args.mode)) s t d (mode-sound 64 (mode_of c.args.mode)) (omega arith) (omega arith)) (returns-in-Ported-clause-answer c)

pub returns-in-Full-clause-answer : goal.returns-in-Full-clause-answer
unfolding match_for unless
returns-in-Full-clause-answer c =
    let s = trailing_of c.args.src in
    let t = trailing_of c.args.dst in
    let d = c.args.dst_base in ap answered (c.matches-in-Full.ensures ∙ ap (λ (m : Mode). match_test 64 (comparison_of 64 (mode_of m)) s t d) (sym c.in-Full.is))
    ∙ simp (ne_eqb s.word 0 c.if-src_word-eq0.false, ne_eqb t.word 0 c.if-dst_word-eq0.false)

pub returns-in-Full-clause-meaning : goal.returns-in-Full-clause-meaning
returns-in-Full-clause-meaning c =
    let s = trailing_of c.args.src in
    let t = trailing_of c.args.dst in
    let d = c.args.dst_base in means (match_meets 64 (comparison_of 64 (mode_of c.args.mode)) s t d (mode-sound 64 (mode_of c.args.mode)) (omega arith) (omega arith)) (returns-in-Full-clause-answer c)
