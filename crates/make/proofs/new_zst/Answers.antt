-- `make::new_zst` meets its contract. Assumes nothing.
use mathlib.Core.Bool.{true, not}
use mathlib.Core.Path.{sym, ap, ◌∙◌}
use Prim.Native.Nat.{ℕ}
use lib.Dec.{eqb}
use native.Mathlib.Omega.{arith}
use Rattle.util_defs.specs.Refusal.{answered, unless}
use Rattle.util_defs.specs.Helpers.{align_causes}
use Rattle.util_defs.proofs.Refusals.{means}
use Rattle.util_defs.proofs.Tables.{answer_is, accepted_as, refused_as}
use Rattle.util.proofs.Told.{handed_on}
use Rattle.layout_defs.specs.Layout.{fixed}
use Rattle.make.specs.Make.{empty_layout, new_zst_for}
use Rattle.make.proofs.Made.{zst_meets}
use Rattle.make.proofs.new_zst.Goals as goal

pub returns-in_err-align-clause-answer : goal.returns-in_err-align-clause-answer
unfolding new_zst_for
returns-in_err-align-clause-answer c =
    let a = c.asked_align.result in
    handed_on _ c.from_residual.result _ c.from_residual.ensures.1 (sym (ap (λ (x : ℕ). unless (align_causes 64 x) (empty_layout c.args.repr_align)) (sym c.asked_align.ensures) ∙ refused_as (align_causes 64 a) a (empty_layout c.args.repr_align) (sym c.in_err-align.ensures.answer)))

pub returns-in_err-align-clause-meaning : goal.returns-in_err-align-clause-meaning
returns-in_err-align-clause-meaning c =
    let a = c.args.repr_align in
    let e = c.asked_align.ensures in means (zst_meets 64 a (omega (arith, e))) (returns-in_err-align-clause-answer c)

pub returns-clause-answer : goal.returns-clause-answer
unfolding new_zst_for
returns-clause-answer c =
    let a = c.asked_align.result in
    let e = sym c.in_ok-align.ensures.answer in
    ap (λ (x : ℕ). answered (record { align = x; info = fixed 0; mark = true; modifier = not (eqb c.args.repr_align 0) })) (answer_is (align_causes 64 a) a e ∙ c.asked_align.ensures)
    ∙ sym (ap (λ (x : ℕ). unless (align_causes 64 x) (empty_layout c.args.repr_align)) (sym c.asked_align.ensures) ∙ accepted_as (align_causes 64 a) a (empty_layout c.args.repr_align) e)

pub returns-clause-meaning : goal.returns-clause-meaning
returns-clause-meaning c =
    let a = c.args.repr_align in
    let e = c.asked_align.ensures in means (zst_meets 64 a (omega (arith, e))) (returns-clause-answer c)
