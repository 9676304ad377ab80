-- The working layout follows the composition of what was accepted, at any width w. Assumes nothing.
use mathlib.Core.Path.{◌≡◌, refl, sym, ap, subst, ◌∙◌}
use mathlib.Core.Bool.{true, false}
use mathlib.Core.List.{List, [], ◌∷◌, ◌++◌}
use Prim.Native.Nat.{ℕ, suc, ◌+◌}
use native.Mathlib.Omega.{arith}
use borrow.Author.Tests.{not-false}
use lib.ListN.{length}
use Rattle.util_defs.specs.Power.{power_of_two}
use Rattle.util_defs.specs.Refusal.{Outcome, answered, refused, unless}
use Rattle.util_defs.proofs.Tables.{apart, answer_is, passed, passed_both}
use Rattle.layout_defs.specs.Layout.{Info, fixed, trailing, Layout, no_word, layout_causes, check_for}
use Rattle.layout_defs.specs.Extend.{place_of, placed_at, extended, onto_causes, step_causes, extend_causes, extend_for}
use Rattle.layout_defs.proofs.Steps.{extend_own}
use Rattle.make.specs.Make.{empty_layout, new_zst_for}
use Rattle.compose_defs.specs.Compose.{composed, and_then, Member, Step, member_step, ported, add_members, begin_causes, begin_for, compose_members}
use Rattle.compose_defs.specs.Typed.{after_test, addition_for, added, typed, kept, accepted, Follows, NextMember, AnswersNext}
use Rattle.compose_defs.proofs.Compositions.{begin_power, step_power}
use Rattle.compose_defs.proofs.Modifiers.{not_composed}
use Rattle.compose_defs.proofs.Accepted.{onward, nothing_more}
use Rattle.compose_defs.proofs.Places.{info_after}

-- what a composition begins with and comes to is accepted
checked : (w : ℕ) (l : Layout) → power_of_two w l.align ≡ true → (no_word l.info).test ≡ false → check_for w l ≡ answered tt
unfolding check_for unless
checked w l p n = rw (p, n)

begin_checked : (w a p : ℕ) {l : Layout} → begin_for w ported a p ≡ answered l → check_for w l ≡ answered tt
unfolding begin_for
begin_checked w a p {l} e =
    checked w l (begin_power w ported a p e) (ap (λ (z : Layout). (no_word z.info).test) (answer_is (begin_causes w ported a p) (empty_layout a) e))

step_checked : (w p : ℕ) (l : Layout) (m : Member) {r : Layout} → member_step w ported p l m ≡ answered r → check_for w r ≡ answered tt
step_checked w p l (answered m) {r} e =
    let x = passed_both (layout_causes w l) (onto_causes w l m p) (passed (extend_causes w l m p) (extended l m p) e) in
    let y = passed_both (layout_causes w m) (step_causes w l m p) x.1 in
    checked w r (step_power w ported p l (answered m) (not-false (power_of_two w l.align) x.0.0) e)
    (ap (λ (i : Info). (no_word i).test) (info_after l m p (answer_is (extend_causes w l m p) (extended l m p) e)) ∙ placed (place_of l m p) m.info ∙ y.0.1.0)
  where
    placed : (q : ℕ) (i : Info) → (no_word (placed_at q i)).test ≡ (no_word i).test
    placed q (fixed s) = refl
    placed q (trailing t) = refl
step_checked w p l (refused k) e = absurd (apart e)

-- so the working layout passes its test, and the addition is the member step; by value it is the step whatever the layout holds
pub addition_step : (w p : ℕ) (l : Layout) (m : Member) → check_for w l ≡ answered tt → addition_for w p l m ≡ member_step w ported p l m
unfolding addition_for
addition_step w p l m e = ap (λ (o : Outcome (Unit {0})). after_test o (member_step w ported p l m)) e

pub addition_off : (w p : ℕ) (l : Layout) (m : Member) {k : ℕ} → check_for w l ≡ refused k → addition_for w p l m ≡ refused k
unfolding addition_for
addition_off w p l m e = ap (λ (o : Outcome (Unit {0})). after_test o (member_step w ported p l m)) e

pub addition_value : (w p : ℕ) (l m : Layout) → addition_for w p l (answered m) ≡ extend_for w l m p
unfolding extend_for
addition_value w p l m = go (check_for w l) refl
  where
    go : (o : Outcome (Unit {0})) → check_for w l ≡ o → addition_for w p l (answered m) ≡ extend_for w l m p
    go (answered tt) e = addition_step w p l (answered m) e
    go (refused k) e = addition_off w p l (answered m) e ∙ extend_own w l m p e

-- a composition of no members is what the working layout begins with
pub begins : (w a : ℕ) {o : Outcome Layout} → o ≡ new_zst_for w a → (p : ℕ) → compose_members w ported a p [] ≡ and_then o 0 composed
unfolding begin_for new_zst_for add_members
begins w a e p = ap (λ (o : Outcome Layout). and_then o 0 composed) (sym e)

-- the members in turn, and one more
then_one : (step : Step) (i : ℕ) (l : Layout) (ms : List Member) (m : Member) {r : Layout} → add_members step i l ms ≡ composed r
    → add_members step i l (ms ++ (m ∷ [])) ≡ and_then (step r m) (i + length ms) composed
unfolding add_members
then_one step i l [] m {r} e =
    let f : i ≡ i + 0 = omega arith in
    ap (λ (z : Layout). and_then (step z m) i composed) (nothing_more step i l e) ∙ ap (λ (k : ℕ). and_then (step r m) k composed) f
then_one step i l (n ∷ ns) m {r} e =
    let o = onward step i l n ns e in
    let f : suc i + length ns ≡ i + suc (length ns) = omega arith in
    ap (λ (z : Outcome Layout). and_then z i (λ k. add_members step (suc i) k (ns ++ (m ∷ [])))) o.taken
    ∙ then_one step (suc i) o.next ns m o.rest ∙ ap (λ (k : ℕ). and_then (step r m) k composed) f

reached : (w p i : ℕ) (l : Layout) (ms : List Member) {r : Layout} → check_for w l ≡ answered tt → add_members (member_step w ported p) i l ms ≡ composed r → check_for w r ≡ answered tt
reached w p i l [] c e = subst (λ (z : Layout). check_for w z ≡ answered tt) (nothing_more (member_step w ported p) i l e) c
reached w p i l (m ∷ ms) c e = let o = onward (member_step w ported p) i l m ms e in reached w p (suc i) o.next ms (step_checked w p l m o.taken) o.rest

pub next_member : (w p : ℕ) (l : Layout) (m : Member) → NextMember w p l m (addition_for w p l m)
next_member w p l m a ms = go (begin_for w ported a p) refl
  where
    go : (o : Outcome Layout) → begin_for w ported a p ≡ o → and_then o 0 (λ z. add_members (member_step w ported p) 0 z ms) ≡ composed l
        → and_then o 0 (λ z. add_members (member_step w ported p) 0 z (ms ++ (m ∷ []))) ≡ and_then (addition_for w p l m) (length ms) composed
    go (answered z) b e =
        let f : 0 + length ms ≡ length ms = omega arith in
        then_one (member_step w ported p) 0 z ms m e
        ∙ ap (λ (k : ℕ). and_then (member_step w ported p l m) k composed) f
        ∙ ap (λ (o : Outcome Layout). and_then o (length ms) composed) (sym (addition_step w p l m (reached w p 0 z ms (begin_checked w a p b) e)))
    go (refused k) b e = absurd (not_composed e)

pub addition_told : (w p : ℕ) (l : Layout) (m : Member) {o : Outcome Layout} → o ≡ addition_for w p l m → (o ≡ addition_for w p l m) × NextMember w p l m o
addition_told w p l m e = (e, subst (NextMember w p l m) (sym e) (next_member w p l m))

-- what was accepted composes to the working layout, whatever runs before
goes_on : (w p i : ℕ) (l : Layout) (ms : List Member) → check_for w l ≡ answered tt
    → add_members (member_step w ported p) i l (accepted w p l ms) ≡ composed (typed w p l ms)
unfolding add_members typed accepted
goes_on w p i l [] c = refl
goes_on w p i l (m ∷ ms) c = go (addition_for w p l m) (addition_step w p l m c) (λ j k d. goes_on w p j k ms d)
  where
    go : (o : Outcome Layout) → o ≡ member_step w ported p l m
        → ((j : ℕ) (k : Layout) → check_for w k ≡ answered tt → add_members (member_step w ported p) j k (accepted w p k ms) ≡ composed (typed w p k ms))
        → add_members (member_step w ported p) i l (kept o m (accepted w p (added o l) ms)) ≡ composed (typed w p (added o l) ms)
    go (answered r) e rec =
        ap (λ (o : Outcome Layout). and_then o i (λ k. add_members (member_step w ported p) (suc i) k (accepted w p r ms))) (sym e)
        ∙ rec (suc i) r (step_checked w p l m (sym e))
    go (refused k) e rec = rec i l c

pub follows : (w a p : ℕ) (ms : List Member) → Follows w a p ms
follows w a p ms l b =
    ap (λ (o : Outcome Layout). and_then o 0 (λ z. add_members (member_step w ported p) 0 z (accepted w p l ms))) b
    ∙ goes_on w p 0 l ms (begin_checked w a p b)

pub answers_next : (w a p : ℕ) (ms : List Member) (m : Member) → AnswersNext w a p ms m
answers_next w a p ms m l b =
    next_member w p (typed w p l ms) m a (accepted w p l ms) (follows w a p ms l b)

-- of a layout that a composition comes to, nothing else answers the next member
pub one_addition : (w a p : ℕ) (ms : List Member) (l : Layout) (m : Member) → compose_members w ported a p ms ≡ composed l
    → (o o' : Outcome Layout) → NextMember w p l m o → NextMember w p l m o' → o ≡ o'
one_addition w a p ms l m c o o' f g = same o o' (sym (f a ms c) ∙ g a ms c)
  where
    same : (o o' : Outcome Layout) → and_then o (length ms) composed ≡ and_then o' (length ms) composed → o ≡ o'
    same (answered x) (answered y) e = cc
    same (answered x) (refused k) e = absurd (not_composed (sym e))
    same (refused k) (answered x) e = absurd (not_composed e)
    same (refused k) (refused j) e = cc
