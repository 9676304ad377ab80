-- What an accepted step of a composition says, at any width w: its tests alone say it. Assumes nothing.
use mathlib.Core.Path.{◌≡◌, refl, sym, subst, ap, ◌∙◌}
use mathlib.Core.Bool.{Bool, true, false, cond, ◌||◌}
use mathlib.Core.List.{List, [], ◌∷◌, ◌++◌}
use mathlib.Core.Logic.{◌⊎◌, inl, inr, ⊎_elim}
use Prim.Native.Nat.{ℕ, suc, ◌+◌, ◌^◌, ◌≤◌, ◌<◌, min}
use native.Mathlib.Omega.{arith}
use borrow.Author.Tests.{ltb-false, eqb-true, eqb-false, not-false}
use lib.Dec.{eqb}
use lib.ListN.{length}
use Rattle.util_defs.specs.Width.{M}
use Rattle.util_defs.specs.Power.{PowerOfTwo, power_of_two}
use Rattle.util_defs.specs.Refusal.{Outcome, answered, refused}
use Rattle.util_defs.proofs.Powers.{test_sound, test_below}
use Rattle.util_defs.proofs.Tables.{answer_is, passed, passed_both}
use Rattle.layout_defs.specs.Layout.{Info, fixed, trailing, Layout, layout_causes}
use Rattle.layout_defs.specs.Extend.{member_align, place_of, extended, is_trailing, is_member_past_m, step_causes, extend_causes}
use Rattle.layout_defs.proofs.Steps.{min_power, member_le}
use Rattle.make.specs.Make.{empty_layout}
use Rattle.padding_defs.specs.Pad.{pad_for}
use Rattle.compose_defs.specs.Compose.{Composed, composed, refused_at, and_then, bind, Member, Step, member_step, ported, add_members, begin_causes, begin_for, compose_struct}
use Rattle.compose_defs.proofs.Compositions.{closing}
use Rattle.compose_defs.proofs.Modifiers.{not_composed}

-- a test of two that passes is one of them
either : (a b : Bool) → (a || b) ≡ true → (a ≡ true) ⊎ (b ≡ true)
either true b e = inl refl
either false b e = inr e

false_true : false ≡ true → ⊥
false_true e = let z : ◌≡◌ {A = ℕ} 0 1 = cc in omega arith

-- a member's alignment under a packing that is accepted
member_align_lem : {a : ℕ} (p : ℕ) → PowerOfTwo a → (p ≡ 0) ⊎ PowerOfTwo p → PowerOfTwo (member_align a p)
member_align_lem {a} p x y = go (eqb p 0) refl y
  where
    go : (b : Bool) → eqb p 0 ≡ b → (p ≡ 0) ⊎ PowerOfTwo p → PowerOfTwo (cond b a (min a p))
    go true e y = x
    go false e (inl z) = absurd (eqb-false p 0 e z)
    go false e (inr q) = min_power x q

-- what an accepted step says
pub record Went (w p : ℕ) (l m r : Layout) : Type 0 where
  pub end : ℕ
  pub before : l.info ≡ fixed end
  pub is : r ≡ extended l m p
  pub power : PowerOfTwo (member_align m.align p)
  pub below : member_align m.align p < 2 ^ w
  pub place : place_of l m p ≤ M w
  pub fits : is_member_past_m w (place_of l m p) m.info ≡ false

pub went : (w p : ℕ) (l m : Layout) {r : Layout} → member_step w ported p l (answered m) ≡ answered r → Went w p l m r
went w p l m {r} e =
    let x = passed (extend_causes w l m p) (extended l m p) e in
    let y = passed_both (layout_causes w l) (layout_causes w m ++ step_causes w l m p) x in
    let z = passed_both (layout_causes w m) (step_causes w l m p) y.1 in
    ending l.info refl z.1.1.1.0
    (answer_is (extend_causes w l m p) (extended l m p) e)
    (member_align_lem p (test_sound w m.align (not-false (power_of_two w m.align) z.0.0)) (packed (not-false (eqb p 0 || power_of_two w p) z.1.0)))
    (omega (arith, member_le m.align p, test_below w m.align (not-false (power_of_two w m.align) z.0.0)))
    (ltb-false (M w) (place_of l m p) z.1.1.1.1.0)
    z.1.1.1.1.1.0
  where
    packed : (eqb p 0 || power_of_two w p) ≡ true → (p ≡ 0) ⊎ PowerOfTwo p
    packed t = ⊎_elim (λ h. inl (eqb-true p 0 h)) (λ h. inr (test_sound w p h)) (either (eqb p 0) (power_of_two w p) t)

    ending : (i : Info) → l.info ≡ i → is_trailing i ≡ false → r ≡ extended l m p → PowerOfTwo (member_align m.align p) → member_align m.align p < 2 ^ w
        → place_of l m p ≤ M w → is_member_past_m w (place_of l m p) m.info ≡ false → Went w p l m r
    ending (fixed s) g t a b u c d = record { end = s; before = g; is = a; power = b; below = u; place = c; fits = d }
    ending (trailing v) g t a b u c d = absurd (false_true (sym t))

-- a composition that is accepted takes its first member, and then the rest
pub record Onward (step : Step) (i : ℕ) (l : Layout) (m : Member) (ms : List Member) (r : Layout) : Type 0 where
  pub next : Layout
  pub taken : step l m ≡ answered next
  pub rest : add_members step (suc i) next ms ≡ composed r

pub onward : (step : Step) (i : ℕ) (l : Layout) (m : Member) (ms : List Member) {r : Layout} → add_members step i l (m ∷ ms) ≡ composed r → Onward step i l m ms r
unfolding add_members
onward step i l m ms {r} e = go (step l m) refl e
  where
    go : (o : Outcome Layout) → step l m ≡ o → and_then o i (λ l'. add_members step (suc i) l' ms) ≡ composed r → Onward step i l m ms r
    go (answered l') t e = record { next = l'; taken = t; rest = e }
    go (refused k) t e = absurd (not_composed e)

-- of no member it is the layout itself
pub nothing_more : (step : Step) (i : ℕ) (l : Layout) {r : Layout} → add_members step i l [] ≡ composed r → l ≡ r
unfolding add_members
nothing_more step i l e = cc

-- a struct that is accepted: its members, and the closing padding
pub record Closed (w a p : ℕ) (ms : List Member) (r : Layout) : Type 0 where
  pub whole : Layout
  pub composes : add_members (member_step w ported p) 0 (empty_layout a) ms ≡ composed whole
  pub closes : pad_for w whole ≡ answered r

pub closed : (w a p : ℕ) (ms : List Member) {r : Layout} → compose_struct w ported a p ms ≡ composed r → Closed w a p ms r
unfolding begin_for
closed w a p ms {r} e = begins (begin_for w ported a p) refl e
  where
    ending : (o : Outcome Layout) (l : Layout) → add_members (member_step w ported p) 0 (empty_layout a) ms ≡ composed l → pad_for w l ≡ o → and_then o (length ms) composed ≡ composed r → Closed w a p ms r
    ending (answered x) l c g e = record { whole = l; composes = c; closes = g ∙ ap answered (same e) }
      where
        same : composed x ≡ composed r → x ≡ r
        same e = cc
    ending (refused k) l c g e = absurd (not_composed e)

    adds : (c : Composed) → add_members (member_step w ported p) 0 (empty_layout a) ms ≡ c → bind c (closing w (length ms)) ≡ composed r → Closed w a p ms r
    adds (composed l) c e = ending (pad_for w l) l c refl e
    adds (refused_at k i) c e = absurd (not_composed e)

    begins : (o : Outcome Layout) → begin_for w ported a p ≡ o → bind (and_then o 0 (λ l. add_members (member_step w ported p) 0 l ms)) (closing w (length ms)) ≡ composed r → Closed w a p ms r
    begins (answered l) g e =
        let z : l ≡ empty_layout a = answer_is (begin_causes w ported a p) (empty_layout a) g in
        adds (add_members (member_step w ported p) 0 (empty_layout a) ms) refl (subst (λ (x : Layout). bind (add_members (member_step w ported p) 0 x ms) (closing w (length ms)) ≡ composed r) z e)
    begins (refused k) g e = absurd (not_composed e)
