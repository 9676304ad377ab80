-- `steps32::round_up` meets its contract. Assumes nothing.
use Rattle.util.proofs.Told.{handed_on}
use Rattle.std.proofs.Common.{ℕ, Bool, cond, leb, sym, ap, ◌∙◌, arith, le-leb}
use borrow.Author.Tests.{lt-leb}
use Rattle.util_defs.specs.Width.{M}
use Rattle.util_defs.specs.Refusal.{Outcome, answered, refused}
use Rattle.util_defs.proofs.Tables.{told_by}
use Rattle.util.specs.View.{number_says}
use Rattle.layout_defs.proofs.Passes.{round_meets}
use Rattle.widths_defs.specs.Low.{mapped, low}
use Rattle.widths_defs.specs.Within.{limited}
use Rattle.widths_layouts_defs.proofs.Made.{round_low}
use Rattle.util_defs.proofs.Refusals.{means}
use Rattle.steps32.proofs.round_up.Goals as goal

abbrev within : Outcome ℕ → Outcome ℕ
within o = mapped (low 32) (limited 8 (λ x. leb x (M 32)) o)

pub returns-then-rounded-le-MAX-clause-answer : goal.returns-then-rounded-le-MAX-clause-answer
returns-then-rounded-le-MAX-clause-answer c = let n = c.in_ok-rounded.rounded in ap answered c.low_word.ensures ∙ ap (λ (b : Bool). mapped (low 32) (cond b (answered n) (refused 8))) (sym (le-leb n (M 32) c.if-rounded-le-MAX.true)) ∙ sym (round_low 32 64 c.args.len c.args.align (omega arith) (omega arith) ∙ ap within (told_by number_says c.round_up.ensures.answer c.in_ok-rounded.was))

pub returns-then-rounded-le-MAX-clause-meaning : goal.returns-then-rounded-le-MAX-clause-meaning
returns-then-rounded-le-MAX-clause-meaning c = let n = c.in_ok-rounded.rounded in means (round_meets 32 c.args.len c.args.align (omega arith)) (returns-then-rounded-le-MAX-clause-answer c)

pub returns-else-rounded-le-MAX-clause-answer : goal.returns-else-rounded-le-MAX-clause-answer
returns-else-rounded-le-MAX-clause-answer c = let n = c.in_ok-rounded.rounded in ap (λ (b : Bool). mapped (low 32) (cond b (answered n) (refused 8))) (sym (lt-leb n (M 32) c.if-rounded-le-MAX.false)) ∙ sym (round_low 32 64 c.args.len c.args.align (omega arith) (omega arith) ∙ ap within (told_by number_says c.round_up.ensures.answer c.in_ok-rounded.was))

pub returns-else-rounded-le-MAX-clause-meaning : goal.returns-else-rounded-le-MAX-clause-meaning
returns-else-rounded-le-MAX-clause-meaning c = let n = c.in_ok-rounded.rounded in means (round_meets 32 c.args.len c.args.align (omega arith)) (returns-else-rounded-le-MAX-clause-answer c)

pub returns-in_err-rounded-clause-answer : goal.returns-in_err-rounded-clause-answer
returns-in_err-rounded-clause-answer c = handed_on _ c.from_residual.result _ c.from_residual.ensures.1 (sym (round_low 32 64 c.args.len c.args.align (omega arith) (omega arith) ∙ ap within (told_by number_says c.round_up.ensures.answer c.in_err-rounded.was)))

pub returns-in_err-rounded-clause-meaning : goal.returns-in_err-rounded-clause-meaning
returns-in_err-rounded-clause-meaning c = means (round_meets 32 c.args.len c.args.align (omega arith)) (returns-in_err-rounded-clause-answer c)
