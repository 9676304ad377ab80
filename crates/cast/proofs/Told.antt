-- What the answers of casts tell their callers. Assumes nothing.
use Rattle.util.specs.declared.refusal.Refusal.{Refusal}
use Rattle.std.specs.Prelude.{Err, Ok, Result}
use mathlib.Core.Path.{◌≡◌, refl, ap, ◌∙◌}
use mathlib.Core.Bool.{Bool, true, false, ◌&&◌}
use mathlib.Core.List.{[], ◌∷◌}
use Prim.Native.Nat.{ℕ, ◌≤◌, ◌<◌}
use native.Mathlib.Omega.{arith}
use borrow.Author.Tests.{eq-eqb, ne_eqb}
use Rattle.util_defs.specs.Refusal.{answered, refused, unless}
use Rattle.util_defs.proofs.Refusals.{known, tells_le, yes, told_true, tells_lt}
use Rattle.util_defs.proofs.Tables.{told_by, answer_is, accepted_none}
use Rattle.layout_defs.specs.Layout.{Info, fixed, trailing, Layout, size_in, no_word}
use Rattle.layout_defs.specs.Extend.{IsTrailing, is_trailing}
use Rattle.cast_defs.specs.Cast.{prefix, count_in, elem_zero, too_small, cast_causes, Grant, greatest_grant, cast_for}
use Rattle.cast_defs.specs.Exact.{split_is, no_exact}
use Rattle.cast.specs.declared.Granted.{Granted}
use Rattle.cast.specs.View.{cast_says}
use Rattle.cast_defs.proofs.Grants.{tells_small, greatest_in}

-- a fit in front: the count and its size
pub fit_told : {g : Granted ℕ} (w : ℕ) (i : Info) (L : ℕ) (r : Result (Granted ℕ) Refusal) → cast_says r ≡ unless (too_small w i L ∷ []) (greatest_grant w i prefix L) → r ≡ Ok g
    → (g.elems ≡ count_in w i L) × (g.split_at ≡ size_in w i (count_in w i L))
fit_told w i L r e g =
    let z = answer_is (too_small w i L ∷ []) (greatest_grant w i prefix L) (told_by cast_says e g) in
    (ap (λ (x : Grant). x.count) z, ap (λ (x : Grant). x.split) z)

-- which is at most the length
pub fit_within : {g : Granted ℕ} (w : ℕ) (i : Info) (L : ℕ) (r : Result (Granted ℕ) Refusal) → cast_says r ≡ unless (too_small w i L ∷ []) (greatest_grant w i prefix L) → r ≡ Ok g
    → 0 < w → ((no_word i).means → ⊥) → ((elem_zero i).means → ⊥) → g.split_at ≤ L
fit_within w i L r e g h nw ne =
    let d = tells_small w i L h nw in
    let m = accepted_none (too_small w i L ∷ []) (greatest_grant w i prefix L) (d, λ _. tt) (told_by cast_says e g) in
    let l : size_in w i 0 ≤ L = known (tells_le (size_in w i 0) L) (λ f. m.0 (yes d (told_true (tells_lt L (size_in w i 0)) (omega (arith, f))))) in
    omega (arith, (fit_told w i L r e g).1, (greatest_in w i L h nw ne l).fits)

-- the exact count by the answer of the cast over s bytes: its count where the split is s, and else 14
and_false : (b : Bool) → (b && false) ≡ false
and_false true = refl
and_false false = refl

is_trailing_lem : (i : Info) → IsTrailing i → is_trailing i ≡ true
is_trailing_lem (fixed s) x = absurd x
is_trailing_lem (trailing t) x = refl

exact_missing : (w : ℕ) (l : Layout) (s : ℕ) → split_is s (cast_for w l prefix 0 s) ≡ false → refused 14 ≡ unless (no_exact w l s ∷ []) (count_in w l.info s)
unfolding unless
exact_missing w l s e = simp (e, and_false (is_trailing l.info))

pub exact_answered : {g : Granted ℕ} (w : ℕ) (l : Layout) (s : ℕ) (r : Result (Granted ℕ) Refusal) → IsTrailing l.info → cast_says r ≡ cast_for w l prefix 0 s → r ≡ Ok g → g.split_at ≡ s
    → answered g.elems ≡ unless (no_exact w l s ∷ []) (count_in w l.info s)
unfolding unless cast_for
exact_answered {g = y} w l s r x e g q =
    let o = told_by cast_says e g in
    let c = answer_is (cast_causes w l prefix 0 s) (greatest_grant w l.info prefix s) o in
    simp (is_trailing_lem l.info x, ap (split_is s) o, eq-eqb y.split_at s q) (ap (λ (y : Grant). answered y.count) c)

pub exact_other : {g : Granted ℕ} (w : ℕ) (l : Layout) (s : ℕ) (r : Result (Granted ℕ) Refusal) → cast_says r ≡ cast_for w l prefix 0 s → r ≡ Ok g → (g.split_at ≡ s → ⊥)
    → refused 14 ≡ unless (no_exact w l s ∷ []) (count_in w l.info s)
exact_other {g = y} w l s r e g q = exact_missing w l s (ap (split_is s) (told_by cast_says e g) ∙ ne_eqb y.split_at s q)

pub exact_none : {k : Refusal} (w : ℕ) (l : Layout) (s : ℕ) (r : Result (Granted ℕ) Refusal) → cast_says r ≡ cast_for w l prefix 0 s → r ≡ Err k
    → refused 14 ≡ unless (no_exact w l s ∷ []) (count_in w l.info s)
exact_none w l s r e g = exact_missing w l s (ap (split_is s) (told_by cast_says e g))

pub exact_fixed : (w : ℕ) (l : Layout) (s : ℕ) → is_trailing l.info ≡ false → refused 14 ≡ unless (no_exact w l s ∷ []) (count_in w l.info s)
unfolding unless
exact_fixed w l s e = simp e
