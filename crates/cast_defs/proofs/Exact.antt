-- The exact count of a size, over any width w. Assumes nothing.
use mathlib.Core.Path.{◌≡◌, sym, ap, ◌∙◌, subst}
use mathlib.Core.Bool.{Bool}
use mathlib.Core.List.{[], ◌∷◌}
use mathlib.Core.Logic.{inl, inr}
use Prim.Native.Nat.{ℕ, ◌^◌, ◌≤◌, ◌<◌}
use native.Mathlib.Nat.{zero-mod}
use native.Mathlib.Omega.{arith}
use Rattle.util_defs.specs.Refusal.{Outcome, answered, Tells, holds, fails, None, First, Meets, answers, refuses}
use Rattle.util_defs.proofs.Refusals.{known, answered_means, tells_eq, tells_le, tells_not, tells_as, meets, clear}
use Rattle.util_defs.proofs.Tables.{none_both, both_none, decided_both}
use Rattle.trailing_defs.specs.Size.{Trailing, A, size_at}
use Rattle.trailing_defs.specs.Count.{GreatestCount, count_within}
use Rattle.trailing_defs.proofs.Sizes.{greatest_count, one_count, count_mono}
use Rattle.layout_defs.specs.Layout.{Marks, marks, Info, fixed, trailing, Layout, no_word, layout_causes}
use Rattle.layout_defs.proofs.Layouts.{layout_decided}
use Rattle.cast_defs.specs.Cast.{prefix, cast_causes, Grant, GrantMeans, count_in}
use Rattle.cast_defs.specs.Exact.{split_is, has_exact, ExactCount, ExactIn, no_exact, exact_causes, exact_for}
use Rattle.cast_defs.proofs.Grants.{align_pos, cast_meets}

-- the exact count of s is the greatest count within s
pub exact_greatest : {w : ℕ} {t : Trailing} {s n : ℕ} → 0 < A w t → ExactCount w t s n → GreatestCount w t s n
exact_greatest {w} {t} {s} {n} h x = record { fits = omega (arith, x.size); greatest = λ m f. least m f (tells_le m n) }
  where
    least : (m : ℕ) → size_at w t m ≤ s → {b : Bool} → Tells (m ≤ n) b → m ≤ n
    least m f (holds l) = l
    least m f (fails g) = x.greatest m (omega (arith, g, x.size, count_mono w t n m h (omega (arith, g))))

-- so it is one number, that of `count_within`
pub exact_count : {w : ℕ} {t : Trailing} {s n : ℕ} → 0 < A w t → ExactCount w t s n → n ≡ count_within w t s
exact_count {w} {t} {s} {n} h x =
    one_count (exact_greatest h x) (greatest_count w t s h x.elem (omega (arith, x.size, count_mono w t 0 n h (omega arith))))

-- a prefix cast at address 0 over s has the split s exactly where there is an exact count of s
split_exact : {o : Outcome Grant} (w a : ℕ) (k : Marks) (t : Trailing) (s : ℕ) → 0 < A w t
    → let l : Layout = record { align = a; info = trailing t; mark = k.0; modifier = k.1 } in
    None (layout_causes w l) → Meets (cast_causes w l prefix 0 s) (GrantMeans w (trailing t) prefix s) o
    → Tells ((n : ℕ) × ExactCount w t s n) (split_is s o)
split_exact w a k t s h ok (answers {x = g} n q) =
    tells_as
    (λ e. (
      g.count,
      record {
        elem = omega (arith, n.1.1.0);
        exists = omega (arith, n.1.1.1.0, q.split, e);
        size = sym q.split ∙ e;
        greatest = λ m f. q.greatest.greatest m tt (omega (arith, f));
      },
    ))
    (λ x. q.split ∙ omega (arith, q.greatest.fits, x.1.size, count_mono w t x.0 g.count h (q.greatest.greatest x.0 tt (omega (arith, x.1.size)))))
    (tells_eq g.split s)
split_exact w a k t s h ok (refuses f) = fails (λ x. never x.0 x.1 f)
  where
    never : {j : ℕ} (n : ℕ) → ExactCount w t s n → First (cast_causes w (record { align = a; info = trailing t; mark = k.0; modifier = k.1 }) prefix 0 s) j → ⊥
    never n x (inl z) = ok.0 z.0
    never n x (inr (_, inl z)) = ok.1.0 z.0
    never n x (inr (_, inr (_, inl z))) = omega (arith, z.0, x.elem)
    never n x (inr (_, inr (_, inr (_, inl z)))) = omega (arith, z.0, x.exists, x.size)
    never n x (inr (_, inr (_, inr (_, inr (_, inl z))))) = z.0 (zero-mod a)
    never n x (inr (_, inr (_, inr (_, inr (_, inr (_, inl z)))))) = z.0 n tt (omega (arith, x.size))
    never n x (inr (_, inr (_, inr (_, inr (_, inr (_, inr z)))))) = z.1

-- the test of an exact count decides that there is one
tells_info : (w a : ℕ) (k : Marks) (i : Info) (s : ℕ) → a < 2 ^ w → 0 < w
    → let l : Layout = record { align = a; info = i; mark = k.0; modifier = k.1 } in None (layout_causes w l) → Tells ((n : ℕ) × ExactIn w i s n) (has_exact w l s)
tells_info w a k (fixed z) s h f ok = fails (λ x. x.1)
tells_info w a k (trailing t) s h f ok =
    split_exact w a k t s (align_pos w t f ok.1.0) ok
    (cast_meets w (record { align = a; info = trailing t; mark = k.0; modifier = k.1 }) prefix 0 s h f)

pub tells_exact : (w : ℕ) (l : Layout) (s : ℕ) → l.align < 2 ^ w → 0 < w → None (layout_causes w l)
    → Tells ((n : ℕ) × ExactIn w l.info s n) (has_exact w l s)
tells_exact w l s h f ok = tells_info w l.align (marks l) l.info s h f ok

-- the exact count is the count of that cast
pub exact_is : (w : ℕ) (i : Info) (s n : ℕ) → 0 < w → ((no_word i).means → ⊥) → ExactIn w i s n → n ≡ count_in w i s
exact_is w (fixed z) s n f nw x = absurd x
exact_is w (trailing t) s n f nw x = exact_count (align_pos w t f nw) x

pub exact_decided : (w : ℕ) (l : Layout) (s : ℕ) → l.align < 2 ^ w → 0 < w → None (layout_causes w l)
    → Tells (no_exact w l s).means (no_exact w l s).test
exact_decided w l s h f ok = tells_as (λ n m x. n (m, x)) (λ g x. g x.0 x.1) (tells_not (tells_exact w l s h f ok))

pub exact_meets : (w : ℕ) (l : Layout) (s : ℕ) → l.align < 2 ^ w → 0 < w
    → Meets (exact_causes w l s) (ExactIn w l.info s) (exact_for w l s)
unfolding exact_for
exact_meets w l s h f =
    meets (exact_causes w l s) (count_in w l.info s)
    (decided_both (layout_causes w l) (no_exact w l s ∷ []) (layout_decided w l h) (λ ok. (exact_decided w l s h f ok, λ _. tt)))
    (λ n.
    let m = none_both (layout_causes w l) (no_exact w l s ∷ []) n in
    let x = known (tells_exact w l s h f m.0) (λ g. m.1.0 (λ k y. g (k, y))) in
    subst (ExactIn w l.info s) (exact_is w l.info s x.0 f m.0.1.0 x.1) x.1)

-- an answer is an exact count, and each exact count is answered
pub exact_sound : (w : ℕ) (l : Layout) (s n : ℕ) → l.align < 2 ^ w → 0 < w → exact_for w l s ≡ answered n → ExactIn w l.info s n
exact_sound w l s n h f e = (answered_means (subst (λ (o : Outcome ℕ). Meets (exact_causes w l s) (ExactIn w l.info s) o) e (exact_meets w l s h f))).1

pub exact_complete : (w : ℕ) (l : Layout) (s n : ℕ) → l.align < 2 ^ w → 0 < w → None (layout_causes w l) → ExactIn w l.info s n → exact_for w l s ≡ answered n
unfolding exact_for
exact_complete w l s n h f ok x =
    clear (exact_causes w l s)
    (decided_both (layout_causes w l) (no_exact w l s ∷ []) (layout_decided w l h) (λ ok. (exact_decided w l s h f ok, λ _. tt)))
    (both_none (layout_causes w l) (no_exact w l s ∷ []) ok ((λ g. g n x), tt))
    ∙ ap answered (sym (exact_is w l.info s n f ok.1.0 x))
