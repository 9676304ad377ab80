-- `full::sizes_agree` meets its contract. Assumes nothing.
use Rattle.util.proofs.Told.{handed_on}
use mathlib.Core.Path.{sym, ap, ap₂, ◌∙◌}
use native.Mathlib.Omega.{arith}
use Rattle.util_defs.specs.Refusal.{answered}
use Rattle.rounding.proofs.Words.{not_zero, word_clear, word_stop}
use Rattle.trailing.proofs.Told.{decoded_told, decoded_refused}
use Rattle.full_defs.specs.Full.{agree_for}
use Rattle.trailing.specs.View.{trailing_of}
use Rattle.full_defs.proofs.Full.{agree_meets, agree_answered}
use Rattle.util_defs.proofs.Refusals.{means}
use Rattle.full.proofs.sizes_agree.Goals as goal

pub returns-clause-answer : goal.returns-clause-answer
returns-clause-answer c =
    let x = c.in_ok-first.first in
    let y = c.in_ok-other.other in
    ap answered c.decoded_agree.ensures
    ∙ sym (agree_answered 64 (trailing_of x.layout) (trailing_of y.layout) (not_zero x.is_word) (not_zero y.is_word))
    ∙ ap₂ (λ l m. agree_for 64 (trailing_of l) (trailing_of m)) (decoded_told c.decoded.result c.decoded.ensures c.in_ok-first.was) (decoded_told c.decoded-2.result c.decoded-2.ensures c.in_ok-other.was)

pub returns-clause-meaning : goal.returns-clause-meaning
returns-clause-meaning c = means (agree_meets 64 (trailing_of c.args.first) (trailing_of c.args.other) (omega arith) (omega arith)) (returns-clause-answer c)

pub returns-in_err-other-clause-answer : goal.returns-in_err-other-clause-answer
unfolding agree_for
returns-in_err-other-clause-answer c =
    let x = ap (λ l. (trailing_of l).word) (decoded_told c.decoded.result c.decoded.ensures c.in_ok-first.was) in
    handed_on _ c.from_residual-in_err-other.result _ c.from_residual-in_err-other.ensures.1 (word_stop _ _ (decoded_refused c.decoded-2.result c.decoded-2.ensures c.in_err-other.was) ∙ sym (word_clear _ _ _ (omega (arith, x, not_zero c.in_ok-first.first.is_word))))

pub returns-in_err-other-clause-meaning : goal.returns-in_err-other-clause-meaning
returns-in_err-other-clause-meaning c = means (agree_meets 64 (trailing_of c.args.first) (trailing_of c.args.other) (omega arith) (omega arith)) (returns-in_err-other-clause-answer c)

pub returns-in_err-first-clause-answer : goal.returns-in_err-first-clause-answer
unfolding agree_for
returns-in_err-first-clause-answer c = handed_on _ c.from_residual.result _ c.from_residual.ensures.1 (word_stop _ _ (decoded_refused c.decoded.result c.decoded.ensures c.in_err-first.was))

pub returns-in_err-first-clause-meaning : goal.returns-in_err-first-clause-meaning
returns-in_err-first-clause-meaning c = means (agree_meets 64 (trailing_of c.args.first) (trailing_of c.args.other) (omega arith) (omega arith)) (returns-in_err-first-clause-answer c)
