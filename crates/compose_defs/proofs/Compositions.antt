-- Compositions, over any width w: what one member more makes of them, and the members of a list of bytes. Assumes nothing.
use mathlib.Core.Path.{◌≡◌, refl, sym, ap, ◌∙◌}
use mathlib.Core.Bool.{Bool, true, false, cond, not, ◌&&◌}
use mathlib.Core.List.{List, [], ◌∷◌}
use Prim.Native.Nat.{ℕ, zero, suc, ◌+◌, ◌-◌, ◌*◌, ◌/◌, ◌%◌, ◌≤◌, ◌<◌}
use native.Mathlib.Omega.{arith}
use borrow.Author.Tests.{eq-eqb, ne_eqb, not-false}
use lib.Dec.{eqb}
use lib.ListN.{length, take, drop}
use lib.Seq.{drop-drop}
use Rattle.util_defs.specs.Power.{power_of_two}
use Rattle.util_defs.specs.Refusal.{answered, refused, unless}
use Rattle.util_defs.specs.Helpers.{align_causes}
use Rattle.util_defs.proofs.Tables.{apart, answer_is, refused_first, accepted_first, passed, passed_both}
use Rattle.layout_defs.specs.Layout.{fixed, Layout}
use Rattle.layout_defs.specs.Extend.{extend_for}
use Rattle.layout_defs.proofs.Onto.{align_kept}
use Rattle.make.specs.Make.{asked, empty_layout, new_zst_for}
use Rattle.padding_defs.specs.Pad.{pad_for}
use Rattle.record_defs.specs.Record.{decode_for}
use Rattle.compose_defs.specs.Compose.{Composed, composed, refused_at, and_then, bind, heeded, both_asked, begin_causes, begin_for}
use Rattle.compose_defs.specs.Compose.{Member, Step, member_step, add_members, compose_members, compose_struct, members_of, compose_for, struct_for}

pub members_length : (w n : ℕ) (s : List ℕ) → length (members_of w n s) ≡ n
unfolding members_of
members_length w zero s = refl
members_length w (suc n) s = ap suc (members_length w n (drop 48 s))

-- the members from the one at i on: that one, and those after it
pub next : (w n i : ℕ) (s : List ℕ) → i < n
    → members_of w (n - i) (drop (i * 48) s) ≡ decode_for w (take 48 (drop (i * 48) s)) ∷ members_of w (n - (i + 1)) (drop ((i + 1) * 48) s)
unfolding members_of
next w n i s h =
    let e : n - i ≡ suc (n - (i + 1)) = omega arith in
    let f : i * 48 + 48 ≡ (i + 1) * 48 = omega arith in
    rw (e, drop-drop 48 (i * 48) s, f)

-- one turn: the member, whose record is the part of the list from i·48 to 48 bytes behind that, is taken, or it stops the composition
module _ (w : ℕ) (step : Step) (n i : ℕ) (s : List ℕ) (l : Layout) (h : i < n) where
  pub turn_on : {m : Layout} → step l (decode_for w (take (i * 48 + 48 - i * 48) (drop (i * 48) s))) ≡ answered m
      → add_members step i l (members_of w (n - i) (drop (i * 48) s)) ≡ add_members step (i + 1) m (members_of w (n - (i + 1)) (drop ((i + 1) * 48) s))
  unfolding add_members
  turn_on e =
      let g : i * 48 + 48 - i * 48 ≡ 48 = omega arith in
      let f : i + 1 ≡ suc i = omega arith in
      rw (next w n i s h, ap (λ (k : ℕ). step l (decode_for w (take k (drop (i * 48) s)))) (sym g) ∙ e, f)

  pub turn_off : {k : ℕ} → step l (decode_for w (take (i * 48 + 48 - i * 48) (drop (i * 48) s))) ≡ refused k
      → add_members step i l (members_of w (n - i) (drop (i * 48) s)) ≡ refused_at k i
  unfolding add_members
  turn_off e =
      let g : i * 48 + 48 - i * 48 ≡ 48 = omega arith in
      rw (next w n i s h, ap (λ (k : ℕ). step l (decode_for w (take k (drop (i * 48) s)))) (sym g) ∙ e)

-- before the first member nothing is done, after the last all
pub begun : (w : ℕ) (step : Step) (n : ℕ) (s : List ℕ) (l : Layout) → add_members step 0 l (members_of w (n - 0) (drop (0 * 48) s)) ≡ add_members step 0 l (members_of w n s)
begun w step n s l = let e : n - 0 ≡ n = omega arith in rw e

pub ended : (w : ℕ) (step : Step) (n i : ℕ) (s : List ℕ) (l : Layout) → n ≤ i → add_members step i l (members_of w (n - i) s) ≡ composed l
unfolding add_members members_of
ended w step n i s l h = let e : n - i ≡ 0 = omega arith in rw e

-- where 50 does not apply the member step is the step itself
pub step_on : (w : ℕ) (heed : Bool) (p : ℕ) (l m : Layout) → (heed && (not (eqb p 0) && m.modifier)) ≡ false → member_step w heed p l (answered m) ≡ extend_for w l m p
unfolding unless extend_for
step_on w true p l m e = rw e
step_on w false p l m e = refl

pub step_off : (w : ℕ) (heed : Bool) (p : ℕ) (l m : Layout) → (heed && (not (eqb p 0) && m.modifier)) ≡ true → member_step w heed p l (answered m) ≡ refused 50
unfolding unless
step_off w true p l m e = rw e
step_off w false p l m e = cc

-- the beginning is the empty layout, where 49 does not apply
pub begin_own : (w : ℕ) (heed : Bool) (a p : ℕ) {k : ℕ} → new_zst_for w a ≡ refused k → begin_for w heed a p ≡ refused k
unfolding new_zst_for begin_for
begin_own w heed a p e = refused_first (align_causes w (asked a)) (heeded heed (both_asked a p)) (empty_layout a) (empty_layout a) e

pub begin_on : (w : ℕ) (heed : Bool) (a p : ℕ) {l : Layout} → new_zst_for w a ≡ answered l → (heed && (not (eqb a 0) && not (eqb p 0))) ≡ false → begin_for w heed a p ≡ answered l
unfolding new_zst_for begin_for unless
begin_on w true a p e h = accepted_first (align_causes w (asked a)) (both_asked a p ∷ []) (empty_layout a) (empty_layout a) e ∙ rw (h, answer_is (align_causes w (asked a)) (empty_layout a) e)
begin_on w false a p e h = accepted_first (align_causes w (asked a)) [] (empty_layout a) (empty_layout a) e ∙ sym (ap answered (answer_is (align_causes w (asked a)) (empty_layout a) e))

pub begin_off : (w : ℕ) (heed : Bool) (a p : ℕ) {l : Layout} → new_zst_for w a ≡ answered l → (heed && (not (eqb a 0) && not (eqb p 0))) ≡ true → begin_for w heed a p ≡ refused 49
unfolding new_zst_for begin_for unless
begin_off w true a p e h = accepted_first (align_causes w (asked a)) (both_asked a p ∷ []) (empty_layout a) (empty_layout a) e ∙ rw h
begin_off w false a p e h = cc

-- alignments are powers of two from the beginning on
pub begin_power : (w : ℕ) (heed : Bool) (a p : ℕ) {l : Layout} → begin_for w heed a p ≡ answered l → power_of_two w l.align ≡ true
unfolding begin_for
begin_power w heed a p e =
    let x = passed_both (align_causes w (asked a)) (heeded heed (both_asked a p)) (passed (begin_causes w heed a p) (empty_layout a) e) in
    ap (λ (z : Layout). power_of_two w z.align) (answer_is (begin_causes w heed a p) (empty_layout a) e) ∙ not-false (power_of_two w (asked a)) x.0.0

pub step_power : (w : ℕ) (heed : Bool) (p : ℕ) (l : Layout) (m : Member) {r : Layout} → power_of_two w l.align ≡ true → member_step w heed p l m ≡ answered r → power_of_two w r.align ≡ true
step_power w heed p l (answered m) {r} h e = go (heed && (not (eqb p 0) && m.modifier)) refl
  where
    go : (b : Bool) → (heed && (not (eqb p 0) && m.modifier)) ≡ b → power_of_two w r.align ≡ true
    go true t = absurd (apart (sym (step_off w heed p l m t) ∙ e))
    go false t = align_kept w l m p h (sym (step_on w heed p l m t) ∙ e)
step_power w heed p l (refused k) h e = absurd (apart e)

-- the layout that a composition begins with has size 0
pub empty_is : (w : ℕ) (heed : Bool) (a p : ℕ) {l : Layout} → begin_for w heed a p ≡ answered l
    → record { align = l.align; info = fixed 0; mark = l.mark; modifier = l.modifier } ≡ l
unfolding begin_for
empty_is w heed a p e =
    let q = answer_is (begin_causes w heed a p) (empty_layout a) e in
    ap (λ (x : Layout). record { align = x.align; info = fixed 0; mark = x.mark; modifier = x.modifier }) q ∙ sym q

-- members compose to what they add up to, onto the empty layout
pub members_on : (w : ℕ) (heed : Bool) (a p : ℕ) (ms : List Member) {l : Layout} → begin_for w heed a p ≡ answered l
    → compose_members w heed a p ms ≡ add_members (member_step w heed p) 0 l ms
members_on w heed a p ms e = rw e

pub members_off : (w : ℕ) (heed : Bool) (a p : ℕ) (ms : List Member) {k : ℕ} → begin_for w heed a p ≡ refused k → compose_members w heed a p ms ≡ refused_at k 0
members_off w heed a p ms e = rw e

-- a list of whole records composes to what its members do
pub compose_whole : (w : ℕ) (heed : Bool) (a p : ℕ) (s : List ℕ) → length s % 48 ≡ 0 → compose_for w heed a p s ≡ compose_members w heed a p (members_of w (length s / 48) s)
unfolding compose_for
compose_whole w heed a p s h = rw (eq-eqb (length s % 48) 0 h)

pub compose_length : (w : ℕ) (heed : Bool) (a p : ℕ) (s : List ℕ) → (length s % 48 ≡ 0 → ⊥) → compose_for w heed a p s ≡ refused_at 20 0
unfolding compose_for
compose_length w heed a p s n = rw (ne_eqb (length s % 48) 0 n)

-- the struct of a list is its composition, padded
abbrev pub closing : ℕ → ℕ → Layout → Composed
closing w n l = and_then (pad_for w l) n composed

pub struct_closes : (w : ℕ) (heed : Bool) (a p : ℕ) (s : List ℕ) → struct_for w heed a p s ≡ bind (compose_for w heed a p s) (closing w (length s / 48))
unfolding struct_for compose_for
struct_closes w heed a p s = go (eqb (length s % 48) 0)
  where
    go : (b : Bool) → cond b (compose_struct w heed a p (members_of w (length s / 48) s)) (refused_at 20 0) ≡ bind (cond b (compose_members w heed a p (members_of w (length s / 48) s)) (refused_at 20 0)) (closing w (length s / 48))
    go true = rw (members_length w (length s / 48) s)
    go false = refl
