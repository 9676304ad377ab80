-- `sequence32::form_within` meets its contract. Assumes nothing.
use Prim.Native.Nat.{ℕ}
use Rattle.full.specs.declared.NormalForm.{NormalForm}
use Rattle.util.specs.declared.refusal.Refusal.{Refusal}
use Rattle.std.specs.Prelude.{Result}
use Rattle.util.proofs.Told.{handed_on}
use mathlib.Core.Path.{sym, ap, ◌∙◌}
use mathlib.Core.Bool.{Bool, cond}
use borrow.Author.Tests.{le-leb, lt-leb}
use Rattle.util_defs.specs.Width.{M}
use Rattle.util_defs.specs.Refusal.{answered, refused}
use Rattle.full.specs.View.{form_in, form_says}
use Rattle.widths_defs.specs.Low.{mapped, low_form}
use Rattle.widths_defs.specs.Within.{form_within}
use Rattle.sequence32.proofs.form_within.Goals as goal

pub returns-then-form-gt-MAX : goal.returns-then-form-gt-MAX
returns-then-form-gt-MAX c =
    let f = c.in_ok-form.form in
    ap (λ (b : Bool). mapped (low_form 32) (cond b (answered (form_in f)) (refused 46))) (sym (lt-leb f.size_base (M 32) c.if-form-gt-MAX.true))
    ∙ ap (λ (x : Result (NormalForm ℕ) Refusal). mapped (low_form 32) (form_within (M 32) (form_says x))) (sym c.in_ok-form.was)

pub returns-else-form-gt-MAX : goal.returns-else-form-gt-MAX
returns-else-form-gt-MAX c =
    let f = c.in_ok-form.form in
    ap answered c.low_form.ensures
    ∙ ap (λ (b : Bool). mapped (low_form 32) (cond b (answered (form_in f)) (refused 46))) (sym (le-leb f.size_base (M 32) c.if-form-gt-MAX.false))
    ∙ ap (λ (x : Result (NormalForm ℕ) Refusal). mapped (low_form 32) (form_within (M 32) (form_says x))) (sym c.in_ok-form.was)

pub returns-in_err-form : goal.returns-in_err-form
returns-in_err-form c = handed_on _ c.from_residual.result _ c.from_residual.ensures.1 (simp c.in_err-form.was)
