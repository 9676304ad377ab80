-- What an answer tells its caller. Assumes nothing.
use Rattle.std.proofs.Common.{◌≡◌, ℕ, ◌<◌, ◌≤◌, Bool, true, false, cond, not, refl, sym, ap, ◌∙◌, arith}
use Rattle.util_defs.specs.Width.{M, fitting, passes, checked}
use Rattle.util_defs.specs.Power.{power_of_two}
use Rattle.util_defs.specs.Refusal.{Outcome, answered, refused, unless, Tells, holds, fails}
use Rattle.util_defs.specs.Helpers.{align_causes}
use Rattle.std.specs.Prelude.{Option, Some, None, Result, Ok, Err}
use Rattle.util.specs.declared.refusal.Refusal.{Refusal}
use Rattle.util.specs.declared.refusal.RefusedAt.{RefusedAt}
use Rattle.util_defs.specs.Placed.{Placed, stopped}
use Rattle.std.specs.Result.{IsErrAnd}
use Rattle.std.proofs.lemmas.Result.{err_from_is_err_and}
use Rattle.util.specs.View.{number_of, says, placed_says, number_says, product_says}
use Rattle.util.specs.declared.align.Align.{Align}
use Rattle.util_defs.proofs.Tables.{told_by, answer_is, apart}
use Rattle.util_defs.proofs.Refusals.{tells_le}

-- a refusal that is handed on is the outcome that the callee's refusal is
pub handed_on : {T S : Type 0} {o : Outcome S} (f : T → S) (r : Result T Refusal) (k : Refusal) → IsErrAnd r (λ e. e ≡ k) → refused (number_of k) ≡ o → says f r ≡ o
handed_on f r k h x = let p = err_from_is_err_and r h in ap (says f) p.1 ∙ (ap (λ e. refused (number_of e)) p.2 ∙ x)

-- the same about a list
pub handed_on_at : {T S : Type 0} {o : Placed S} (f : T → S) (r : Result T (RefusedAt ℕ)) (k : RefusedAt ℕ) → IsErrAnd r (λ e. e ≡ k)
    → stopped (number_of k.refusal) k.place ≡ o → placed_says f r ≡ o
handed_on_at f r k h x = let p = err_from_is_err_and r h in ap (placed_says f) p.1 ∙ (ap (λ e. stopped (number_of e.refusal) e.place) p.2 ∙ x)

-- where the outcome is an answer, the number is it, and there is no refusal
pub number_told : {x v : ℕ} {o : Outcome ℕ} (r : Result ℕ Refusal) → number_says r ≡ o → o ≡ answered x → r ≡ Ok v → v ≡ x
number_told {x} {v} {o} r e a g = let s : answered v ≡ answered x = sym (ap number_says g) ∙ e ∙ a in cc

pub number_kept : {x : ℕ} {k : Refusal} {o : Outcome ℕ} (r : Result ℕ Refusal) → number_says r ≡ o → o ≡ answered x → r ≡ Err k → ⊥
number_kept {x} {k} {o} r e a g =
    let s : refused (number_of k) ≡ answered x = sym (ap number_says g) ∙ e ∙ a in
    let z : ◌≡◌ {A = ℕ} 0 1 = cc in
    omega arith

-- a product that fits is the product, and one that does not is past the greatest number
pub product_told : {x : ℕ} (w y : ℕ) (r : Option ℕ) → product_says r ≡ checked w y → r ≡ Some x → (x ≡ y) × (y ≤ M w)
product_told {x} w y r e g = go (tells_le y (M w)) (sym (ap product_says g) ∙ e)
  where
    go : {b : Bool} → Tells (y ≤ M w) b → fitting x ≡ cond b (fitting y) passes → (x ≡ y) × (y ≤ M w)
    go (holds l) s = (cc, l)
    go (fails n) s = let z : ◌≡◌ {A = ℕ} 0 1 = cc in absurd (omega arith)

pub product_past : (w y : ℕ) (r : Option ℕ) → product_says r ≡ checked w y → r ≡ None → M w < y
product_past w y r e g = go (tells_le y (M w)) (sym (ap product_says g) ∙ e)
  where
    go : {b : Bool} → Tells (y ≤ M w) b → passes ≡ cond b (fitting y) passes → M w < y
    go (holds l) s = let z : ◌≡◌ {A = ℕ} 0 1 = cc in absurd (omega arith)
    go (fails n) s = omega (arith, n)

-- an alignment that was made is the number, and that is no power of two where none was
pub made_align : {a : Align} (w v : ℕ) (r : Result Align Refusal) → says (λ (x : Align). x.value) r ≡ unless (align_causes w v) v → r ≡ Ok a → a.value ≡ v
made_align w v r e g = answer_is (align_causes w v) v (told_by (says (λ (x : Align). x.value)) e g)

pub no_align : {k : Refusal} (w v : ℕ) (r : Result Align Refusal) → says (λ (x : Align). x.value) r ≡ unless (align_causes w v) v → r ≡ Err k → power_of_two w v ≡ false
unfolding unless
no_align {k} w v r e g = go (power_of_two w v) refl (told_by (says (λ (x : Align). x.value)) e g)
  where
    go : (b : Bool) → power_of_two w v ≡ b → cond (not b) (refused 1) (answered v) ≡ refused (number_of k) → power_of_two w v ≡ false
    go true t s = absurd (apart (sym s))
    go false t s = t
