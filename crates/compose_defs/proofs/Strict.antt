-- The strict composition, over any width w: what it answers is what it means, and nothing else is. Assumes nothing.
use mathlib.Core.Path.{◌≡◌, refl, sym, subst, ap, ◌∙◌}
use mathlib.Core.Bool.{Bool, true, false, cond, not, ◌&&◌}
use mathlib.Core.List.{List}
use mathlib.Core.Logic.{◌⊎◌, inl, inr, ⊎_elim}
use Prim.Native.Nat.{ℕ, zero, suc, ◌/◌, ◌%◌}
use native.Mathlib.Omega.{arith}
use borrow.Author.Tests.{eq-eqb, ne_eqb}
use lib.Dec.{eqb}
use lib.ListN.{length}
use Rattle.util_defs.specs.Refusal.{Outcome, answered, refused}
use Rattle.util_defs.specs.Helpers.{align_causes}
use Rattle.util_defs.proofs.Tables.{apart, answer_is}
use Rattle.layout_defs.specs.Layout.{Layout}
use Rattle.make.specs.Make.{asked, empty_layout, new_zst_for}
use Rattle.compose_defs.specs.Compose.{Composed, composed, refused_at, and_then, bind, Member, member_step, ported, strict, add_members, compose_struct, members_of, struct_for}
use Rattle.compose_defs.specs.Strict.{NoModifier, BothApply, OfLayout, FirstModifier, ModifierApplies, StrictMeans, StrictList}
use Rattle.compose_defs.proofs.Compositions.{closing, begin_own, begin_on, begin_off}
use Rattle.compose_defs.proofs.Modifiers.{not_composed, same_steps, unpacked_step, Came, stops, passes, came, first_one}

-- a number is 0 or not
zero_or : (n : ℕ) → (n ≡ 0) ⊎ (n ≡ 0 → ⊥)
zero_or zero = inl refl
zero_or (suc n) = inr (λ e. omega (arith, e))

and_false : (b : Bool) → (b && false) ≡ false
and_false true = refl
and_false false = refl

-- what was composed before the closing padding
before_closing : (c : Composed) (f : Layout → Composed) {l : Layout} {P : Type 0} → bind c f ≡ composed l → ((l₀ : Layout) → c ≡ composed l₀ → P) → P
before_closing (composed l₀) f e g = g l₀ refl
before_closing (refused_at k i) f e g = absurd (not_composed e)

-- each of the three ways, and what it excludes
module _ (w a p : ℕ) (ms : List Member) where
  pub data Ways : Type 0 where
    by_both : BothApply w a p → compose_struct w strict a p ms ≡ refused_at 49 0 → Ways
    by_inside : (i : ℕ) → ModifierApplies w a p ms i → compose_struct w strict a p ms ≡ refused_at 50 i → Ways
    by_neither : (BothApply w a p → ⊥) → ((i : ℕ) → ModifierApplies w a p ms i → ⊥) → compose_struct w strict a p ms ≡ compose_struct w ported a p ms
        → ((l : Layout) → compose_struct w ported a p ms ≡ composed l → (p ≡ 0) ⊎ ((a ≡ 0) × NoModifier ms)) → Ways

  abbrev from : Bool → Outcome Layout → Composed
  from heed o = bind (and_then o 0 (λ l. add_members (member_step w heed p) 0 l ms)) (closing w (length ms))

  own_refused : {k : ℕ} → new_zst_for w a ≡ refused k → Ways
  own_refused e =
      by_neither
      (λ b. apart (sym e ∙ b.own))
      (λ i x. subst (λ (o : Outcome Layout). OfLayout o (λ l. FirstModifier w p l ms i)) e x.comes)
      (ap (from true) (begin_own w true a p e) ∙ sym (ap (from false) (begin_own w false a p e)))
      (λ l x. absurd (not_composed (sym (ap (from false) (begin_own w false a p e)) ∙ x)))

  module _ {l : Layout} (e : new_zst_for w a ≡ answered l) where
    begun_ported : compose_struct w ported a p ms ≡ from false (answered l)
    begun_ported = ap (from false) (begin_on w false a p e refl)

    unpacked : p ≡ 0 → Ways
    unpacked z =
        by_neither
        (λ b. b.packed z)
        (λ i x. x.packed z)
        (ap (from true) (begin_on w true a p e (ap (λ (b : Bool). not (eqb a 0) && not b) (eq-eqb p 0 z) ∙ and_false (not (eqb a 0))))
        ∙ ap (λ (c : Composed). bind c (closing w (length ms))) (same_steps (member_step w strict p) (member_step w ported p) (unpacked_step w p z) 0 l ms)
        ∙ sym begun_ported)
        (λ r x. inl z)

    both_asked : (a ≡ 0 → ⊥) → (p ≡ 0 → ⊥) → Ways
    unfolding new_zst_for
    both_asked n h =
        by_both
        (record { own = e ∙ ap answered (answer_is (align_causes w (asked a)) (empty_layout a) e); aligned = n; packed = h })
        (ap (from true) (begin_off w true a p e (rw (ne_eqb a 0 n, ne_eqb p 0 h))))

    packed : a ≡ 0 → (p ≡ 0 → ⊥) → Ways
    packed z h = go (came w p h ms 0 l)
      where
        begun_strict : compose_struct w strict a p ms ≡ from true (answered l)
        begun_strict = ap (from true) (begin_on w true a p e (rw (eq-eqb a 0 z)))

        here : (i : ℕ) → FirstModifier w p l ms i → ModifierApplies w a p ms i
        here i x = record { alone = z; packed = h; comes = subst (λ (o : Outcome Layout). OfLayout o (λ l'. FirstModifier w p l' ms i)) (sym e) x }

        go : Came w p h 0 l ms → Ways
        go (stops n x y) = by_inside n (here n x) (begun_strict ∙ ap (λ (c : Composed). bind c (closing w (length ms))) (y ∙ ap (refused_at 50) (omega arith)))
        go (passes f y acc) =
            by_neither
            (λ b. b.aligned z)
            (λ i x. f i (subst (λ (o : Outcome Layout). OfLayout o (λ l'. FirstModifier w p l' ms i)) e x.comes))
            (begun_strict ∙ ap (λ (c : Composed). bind c (closing w (length ms))) y ∙ sym begun_ported)
            (λ r x. before_closing (add_members (member_step w ported p) 0 l ms) (closing w (length ms)) (sym begun_ported ∙ x) (λ l₀ g. inr (z, acc l₀ g)))

  ways : Ways
  ways = own (new_zst_for w a) refl
    where
      own : (o : Outcome Layout) → new_zst_for w a ≡ o → Ways
      own (refused k) e = own_refused e
      own (answered l) e = ⊎_elim (unpacked e) (λ h. ⊎_elim (λ z. packed e z h) (λ n. both_asked e n h) (zero_or a)) (zero_or p)

  pub strict_means : StrictMeans w a p ms (compose_struct w strict a p ms)
  strict_means = go ways
    where
      one : {i j : ℕ} (o : Outcome Layout) → OfLayout o (λ l. FirstModifier w p l ms i) → OfLayout o (λ l. FirstModifier w p l ms j) → i ≡ j
      one {i} {j} (answered l) x y = first_one w p l ms i j x y
      one (refused k) x y = absurd x

      go : Ways → StrictMeans w a p ms (compose_struct w strict a p ms)
      go (by_both b e) = record {
        both = λ x. e;
        inside = λ i x. absurd (b.aligned x.alone);
        same = λ f g. absurd (f b);
        accepts = λ l x. absurd (not_composed (sym e ∙ x));
      }
      go (by_inside i m e) = record {
        both = λ x. absurd (x.aligned m.alone);
        inside = λ j x. e ∙ ap (refused_at 50) (one (new_zst_for w a) m.comes x.comes);
        same = λ f g. absurd (g i m);
        accepts = λ l x. absurd (not_composed (sym e ∙ x));
      }
      go (by_neither f g e acc) = record {
        both = λ x. absurd (f x);
        inside = λ i x. absurd (g i x);
        same = λ f' g'. e;
        accepts = λ l x. acc l (sym e ∙ x);
      }

  -- nothing else is what it means
  pub one_strict : (r : Composed) → StrictMeans w a p ms r → r ≡ compose_struct w strict a p ms
  one_strict r x = go ways
    where
      go : Ways → r ≡ compose_struct w strict a p ms
      go (by_both b e) = x.both b ∙ sym e
      go (by_inside i m e) = x.inside i m ∙ sym e
      go (by_neither f g e acc) = x.same f g ∙ sym e

-- of a list of whole records
pub list_means : (w a p : ℕ) (s : List ℕ) {r : Composed} → r ≡ struct_for w strict a p s → StrictList w a p s r
unfolding struct_for
list_means w a p s {r} e h =
    let ms = members_of w (length s / 48) s in
    subst (StrictMeans w a p ms) (sym (e ∙ ap (λ (b : Bool). cond b (compose_struct w strict a p ms) (refused_at 20 0)) (eq-eqb (length s % 48) 0 h))) (strict_means w a p ms)
