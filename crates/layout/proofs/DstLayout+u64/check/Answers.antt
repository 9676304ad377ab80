-- `layout::DstLayout::check` meets its contract. Assumes nothing.
use Prim.Native.Nat.{ℕ}
use mathlib.Core.Path.{sym, ◌∙◌, subst}
use native.Mathlib.Omega.{arith}
use borrow.Author.Tests.{eq-eqb, ne_eqb}
use Rattle.util_defs.specs.Refusal.{unless}
use Rattle.layout_defs.specs.Layout.{WordFits, check_for}
use Rattle.layout.specs.declared.SizeInfo.{SizeInfo}
use Rattle.layout.specs.View.{info_of, layout_of}
use Rattle.layout_defs.proofs.Layouts.{check_meets, check_refused}
use Rattle.util_defs.proofs.Refusals.{means}
use Rattle.layout.proofs.DstLayout+u64.check.Goals as goal

pub returns-in-Sized-clause-answer : goal.returns-in-Sized-clause-answer
unfolding check_for unless
returns-in-Sized-clause-answer c =
    simp (sym c.is_power_of_two.ensures.answer ∙ c.if-is_power_of_two.true, c.in-Sized.is)

pub returns-in-Sized-clause-meaning : goal.returns-in-Sized-clause-meaning
returns-in-Sized-clause-meaning c =
    let l = layout_of c.args.self in means (check_meets 64 l (record { align = omega arith; word = subst (λ (i : SizeInfo ℕ). WordFits 64 (info_of i)) (sym c.in-Sized.is) tt })) (returns-in-Sized-clause-answer c)

pub returns-then-word-eq0 : goal.returns-then-word-eq0
unfolding check_for unless
returns-then-word-eq0 c =
    let l = layout_of c.args.self in let told_here = check_refused 64 l (omega arith) (simp (sym c.is_power_of_two.ensures.answer ∙ c.if-is_power_of_two.true, c.in-SliceDst.is, eq-eqb _ 0 c.if-word-eq0.true)) in record { answer = told_here.0; meaning = told_here.1 }

pub returns-else-word-eq0-clause-answer : goal.returns-else-word-eq0-clause-answer
unfolding check_for unless
returns-else-word-eq0-clause-answer c =
    simp (sym c.is_power_of_two.ensures.answer ∙ c.if-is_power_of_two.true, c.in-SliceDst.is, ne_eqb _ 0 c.if-word-eq0.false)

pub returns-else-word-eq0-clause-meaning : goal.returns-else-word-eq0-clause-meaning
returns-else-word-eq0-clause-meaning c =
    let l = layout_of c.args.self in means (check_meets 64 l (record { align = omega arith; word = subst (λ (i : SizeInfo ℕ). WordFits 64 (info_of i)) (sym c.in-SliceDst.is) (omega arith) })) (returns-else-word-eq0-clause-answer c)

pub returns-else-is_power_of_two : goal.returns-else-is_power_of_two
unfolding check_for unless
returns-else-is_power_of_two c =
    let l = layout_of c.args.self in let told_here = check_refused 64 l (omega arith) (simp (sym c.is_power_of_two.ensures.answer ∙ c.if-is_power_of_two.false)) in record { answer = told_here.0; meaning = told_here.1 }
