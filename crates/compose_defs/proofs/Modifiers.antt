-- The first alignment modifier that a packed composition comes to, over any width w. Assumes nothing.
use mathlib.Core.Path.{◌≡◌, refl, sym, subst, ap, ◌∙◌}
use mathlib.Core.Bool.{Bool, true, false}
use mathlib.Core.List.{List, [], ◌∷◌}
use Prim.Native.Nat.{ℕ, zero, suc, ◌+◌}
use native.Mathlib.Omega.{arith}
use borrow.Author.Tests.{eq-eqb, ne_eqb}
use Rattle.util_defs.specs.Refusal.{Outcome, answered, refused}
use Rattle.layout_defs.specs.Layout.{Layout}
use Rattle.compose_defs.specs.Compose.{Composed, composed, refused_at, and_then, Member, Step, member_step, ported, strict, add_members}
use Rattle.compose_defs.specs.Strict.{HasModifier, NoModifier, OfLayout, FirstModifier}
use Rattle.compose_defs.proofs.Compositions.{step_on, step_off}

-- a refusal is no layout, and a member has a modifier or it has none
pub not_composed : {k i : ℕ} {l : Layout} → refused_at k i ≡ composed l → ⊥
not_composed e = let z : ◌≡◌ {A = ℕ} 0 1 = cc in omega arith

plain : (m : Layout) → m.modifier ≡ false → HasModifier (answered m) → ⊥
plain m e x = let z : ◌≡◌ {A = ℕ} 0 1 = cc in omega arith

-- steps that agree compose alike
pub same_steps : (s t : Step) → ((l : Layout) (m : Member) → s l m ≡ t l m) → (i : ℕ) (l : Layout) (ms : List Member) → add_members s i l ms ≡ add_members t i l ms
unfolding add_members
same_steps s t f i l [] = refl
same_steps s t f i l (m ∷ ms) = ap (λ (o : Outcome Layout). and_then o i (λ l'. add_members s (suc i) l' ms)) (f l m) ∙ go (t l m) (λ l'. same_steps s t f (suc i) l' ms)
  where
    go : (o : Outcome Layout) → ((l' : Layout) → add_members s (suc i) l' ms ≡ add_members t (suc i) l' ms)
        → and_then o i (λ l'. add_members s (suc i) l' ms) ≡ and_then o i (λ l'. add_members t (suc i) l' ms)
    go (answered l') r = r l'
    go (refused k) r = refl

-- a composition that is not packed heeds nothing
pub unpacked_step : (w p : ℕ) → p ≡ 0 → (l : Layout) (m : Member) → member_step w strict p l m ≡ member_step w ported p l m
unpacked_step w p z l (answered m) = step_on w true p l m (rw (eq-eqb p 0 z)) ∙ sym (step_on w false p l m refl)
unpacked_step w p z l (refused k) = refl

-- a packed one comes to a modifier and stops, or it comes to none
module _ (w p : ℕ) (h : p ≡ 0 → ⊥) where
  pub data Came (i : ℕ) (l : Layout) (ms : List Member) : Type 0 where
    stops : (n : ℕ) → FirstModifier w p l ms n → add_members (member_step w strict p) i l ms ≡ refused_at 50 (i + n) → Came i l ms
    passes : ((n : ℕ) → FirstModifier w p l ms n → ⊥) → add_members (member_step w strict p) i l ms ≡ add_members (member_step w ported p) i l ms
        → ((r : Layout) → add_members (member_step w ported p) i l ms ≡ composed r → NoModifier ms) → Came i l ms

  abbrev goes : Bool → (i : ℕ) → List Member → Outcome Layout → Composed
  goes heed i ms o = and_then o i (λ l'. add_members (member_step w heed p) (suc i) l' ms)

  -- one member without a modifier before
  module _ (m : Layout) (ms : List Member) (i : ℕ) (l : Layout) (e : m.modifier ≡ false) where
    alike : member_step w strict p l (answered m) ≡ member_step w ported p l (answered m)
    alike = step_on w true p l m (rw (ne_eqb p 0 h, e)) ∙ sym (step_on w false p l m refl)

    stopped : (k : ℕ) → member_step w ported p l (answered m) ≡ refused k → Came i l (answered m ∷ ms)
    unfolding add_members
    stopped k g = passes none (ap (goes true i ms) (alike ∙ g) ∙ sym (ap (goes false i ms) g)) (λ r x. absurd (not_composed (sym (ap (goes false i ms) g) ∙ x)))
      where
        none : (n : ℕ) → FirstModifier w p l (answered m ∷ ms) n → ⊥
        none zero x = plain m e x
        none (suc n) x = subst (λ (o : Outcome Layout). OfLayout o (λ l'. FirstModifier w p l' ms n)) g x.1

    onward : (l' : Layout) → member_step w ported p l (answered m) ≡ answered l' → Came (suc i) l' ms → Came i l (answered m ∷ ms)
    unfolding add_members
    onward l' g (stops n x y) =
        stops (suc n) (plain m e, subst (λ (o : Outcome Layout). OfLayout o (λ l''. FirstModifier w p l'' ms n)) (sym g) x)
        (ap (goes true i ms) (alike ∙ g) ∙ y ∙ ap (refused_at 50) (omega arith))
    onward l' g (passes f y z) =
        passes none (ap (goes true i ms) (alike ∙ g) ∙ y ∙ sym (ap (goes false i ms) g)) (λ r x. (plain m e, z r (sym (ap (goes false i ms) g) ∙ x)))
      where
        none : (n : ℕ) → FirstModifier w p l (answered m ∷ ms) n → ⊥
        none zero x = plain m e x
        none (suc n) x = f n (subst (λ (o : Outcome Layout). OfLayout o (λ l''. FirstModifier w p l'' ms n)) g x.1)

  pub came : (ms : List Member) (i : ℕ) (l : Layout) → Came i l ms
  unfolding add_members
  came [] i l = passes (λ n x. x) refl (λ r e. tt)
  came (refused k ∷ ms) i l = passes none refl (λ r e. absurd (not_composed e))
    where
      none : (n : ℕ) → FirstModifier w p l (refused k ∷ ms) n → ⊥
      none zero x = x
      none (suc n) x = x.1
  came (answered m ∷ ms) i l = modified m.modifier refl (came ms (suc i))
    where
      modified : (b : Bool) → m.modifier ≡ b → ((l' : Layout) → Came (suc i) l' ms) → Came i l (answered m ∷ ms)
      modified true e rec = stops 0 e (ap (goes true i ms) (step_off w true p l m (rw (ne_eqb p 0 h, e))) ∙ ap (refused_at 50) (omega arith))
      modified false e rec = stepped (member_step w ported p l (answered m)) refl
        where
          stepped : (o : Outcome Layout) → member_step w ported p l (answered m) ≡ o → Came i l (answered m ∷ ms)
          stepped (answered l') g = onward m ms i l e l' g (rec l')
          stepped (refused k) g = stopped m ms i l e k g

-- there is one first modifier
pub first_one : (w p : ℕ) (l : Layout) (ms : List Member) (i j : ℕ) → FirstModifier w p l ms i → FirstModifier w p l ms j → i ≡ j
first_one w p l [] i j x y = absurd x
first_one w p l (m ∷ ms) zero zero x y = refl
first_one w p l (m ∷ ms) zero (suc j) x y = absurd (y.0 x)
first_one w p l (m ∷ ms) (suc i) zero x y = absurd (x.0 y)
first_one w p l (m ∷ ms) (suc i) (suc j) x y = ap suc (go (member_step w ported p l m) (λ l'. first_one w p l' ms i j) x.1 y.1)
  where
    go : (o : Outcome Layout) → ((l' : Layout) → FirstModifier w p l' ms i → FirstModifier w p l' ms j → i ≡ j)
        → OfLayout o (λ l'. FirstModifier w p l' ms i) → OfLayout o (λ l'. FirstModifier w p l' ms j) → i ≡ j
    go (answered l') f x y = f l' x y
    go (refused k) f x y = absurd x
