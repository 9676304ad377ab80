-- The places and gaps that are written one after the other, over any width w: before the first member, at each, after the last.
-- Assumes nothing.
use mathlib.Core.Path.{◌≡◌, refl, sym, subst, ap, ◌∙◌}
use mathlib.Core.Bool.{Bool, true, false, ◌&&◌}
use mathlib.Core.List.{List, [], ◌∷◌, ◌++◌}
use Prim.Native.Nat.{ℕ, suc, ◌+◌, ◌-◌, ◌*◌, ◌/◌, ◌%◌, ◌≤◌, ◌<◌}
use native.Mathlib.Omega.{arith}
use borrow.Author.Tests.{eq-eqb, ne_eqb}
use lib.Dec.{eqb}
use lib.ListN.{length, take, drop, set}
use lib.Seq.{take_all, take-suc-set, append_snoc}
use Rattle.util_defs.specs.Refusal.{Outcome, answered, refused}
use Rattle.util_defs.proofs.Tables.{apart}
use Rattle.layout_defs.specs.Layout.{fixed, Layout}
use Rattle.layout_defs.specs.Extend.{preceding_size, place_of, extended}
use Rattle.make.specs.Make.{empty_layout}
use Rattle.record_defs.specs.Record.{decode_for}
use Rattle.compose_defs.specs.Compose.{Composed, composed, refused_at, Member, member_step, ported, add_members, members_of, compose_struct, struct_for}
use Rattle.compose_defs.specs.Places.{states, places_of, gaps_of, places_for, listed, written, end_of, Lands, Composes, PlacesMean, ListPlacesMean}
use Rattle.compose_defs.proofs.Compositions.{next, members_length}
use Rattle.compose_defs.proofs.Accepted.{went, onward, closed}
use Rattle.compose_defs.proofs.Places.{places_mean}

-- what is known at the member i: the layout so far, which ends at end; what was written, and what is to come
pub record Going (w p n i : ℕ) (s : List ℕ) (P G : List ℕ) (end : ℕ) (ps gs : List ℕ) : Type 0 where
  pub layout : Layout
  pub whole : Layout
  pub rest : add_members (member_step w ported p) i layout (members_of w (n - i) (drop (i * 48) s)) ≡ composed whole
  pub ends : end_of layout.info ≡ end
  pub places : P ≡ take i ps ++ places_of p layout (members_of w (n - i) (drop (i * 48) s))
  pub gaps : G ≡ take i gs ++ gaps_of p layout (members_of w (n - i) (drop (i * 48) s))

pub going_begins : (w a p n : ℕ) (s ps gs : List ℕ) → Composes w a p (members_of w n s)
    → Going w p n 0 s (places_of p (empty_layout a) (members_of w n s)) (gaps_of p (empty_layout a) (members_of w n s)) 0 ps gs
going_begins w a p n s ps gs x =
    let e : n - 0 ≡ n = omega arith in
    record {
      layout = empty_layout a;
      whole = x.whole;
      rest = rw e x.composes;
      ends = refl;
      places = ap (λ (k : ℕ). places_of p (empty_layout a) (members_of w k s)) (sym e);
      gaps = ap (λ (k : ℕ). gaps_of p (empty_layout a) (members_of w k s)) (sym e);
    }

append_nil : (xs : List ℕ) → xs ++ [] ≡ xs
append_nil [] = refl
append_nil (x ∷ xs) = ap (λ (v : List ℕ). x ∷ v) (append_nil xs)

-- what is to come first is written next
moved : (qs : List ℕ) (i q : ℕ) (xs ys : List ℕ) → i < length qs → xs ≡ ys → take i qs ++ (q ∷ xs) ≡ take (i + 1) (set qs i q) ++ ys
moved qs i q xs ys h e =
    let u : suc i ≡ i + 1 = omega arith in
    sym (append_snoc (take i qs) q xs)
    ∙ ap (λ (v : List ℕ). v ++ xs) (sym (take-suc-set qs i q h) ∙ ap (λ (k : ℕ). take k (set qs i q)) u)
    ∙ ap (λ (v : List ℕ). take (i + 1) (set qs i q) ++ v) e

-- the member at i lands
module _ (w p n i : ℕ) (s P G : List ℕ) {end : ℕ} (ps gs : List ℕ) (place gap then : ℕ) where
  lands : (l m : Layout) {r : Layout} → let ms = members_of w (n - (i + 1)) (drop ((i + 1) * 48) s) in add_members (member_step w ported p) i l (answered m ∷ ms) ≡ composed r
      → end_of l.info ≡ end → Lands w p end m place gap then
      → P ≡ take i ps ++ places_of p l (answered m ∷ ms) → G ≡ take i gs ++ gaps_of p l (answered m ∷ ms)
      → i < length ps → i < length gs → Going w p n (i + 1) s P G then (set ps i place) (set gs i gap)
  unfolding states
  lands l m {r} e g h a b x y =
      let ms = members_of w (n - (i + 1)) (drop ((i + 1) * 48) s) in
      let o = onward (member_step w ported p) i l (answered m) ms e in
      let t = went w p l m o.taken in
      let k : l.info ≡ fixed end = t.before ∙ ap fixed (sym (ap end_of t.before) ∙ g) in
      let z = h l o.next k o.taken in
      let u : suc i ≡ i + 1 = omega arith in
      let v : preceding_size l.info ≡ end = ap preceding_size k in
      let d : gap ≡ place_of l m p - preceding_size l.info = omega (arith, z.0, z.1.0) in
      record {
        layout = o.next;
        whole = r;
        rest = subst (λ (j : ℕ). add_members (member_step w ported p) j o.next ms ≡ composed r) u o.rest;
        ends = sym z.1.1;
        places = a ∙ ap (λ (q : ℕ). take i ps ++ (q ∷ places_of p (extended l m p) ms)) (sym z.0) ∙ moved ps i place (places_of p (extended l m p) ms) (places_of p o.next ms) x (ap (λ (c : Layout). places_of p c ms) (sym t.is));
        gaps = b ∙ ap (λ (q : ℕ). take i gs ++ (q ∷ gaps_of p (extended l m p) ms)) (sym d) ∙ moved gs i gap (gaps_of p (extended l m p) ms) (gaps_of p o.next ms) y (ap (λ (c : Layout). gaps_of p c ms) (sym t.is));
      }

  pub going_on : i < n → i < length ps → i < length gs → ((m : Layout) → decode_for w (take (i * 48 + 48 - i * 48) (drop (i * 48) s)) ≡ answered m → Lands w p end m place gap then)
      → Going w p n i s P G end ps gs → Going w p n (i + 1) s P G then (set ps i place) (set gs i gap)
  going_on h x y f g = go (decode_for w (take 48 (drop (i * 48) s))) refl
    where
      ms : List Member
      ms = members_of w (n - (i + 1)) (drop ((i + 1) * 48) s)

      part : take (i * 48 + 48 - i * 48) (drop (i * 48) s) ≡ take 48 (drop (i * 48) s)
      part = let k : i * 48 + 48 - i * 48 ≡ 48 = omega arith in rw k

      here : {o : Outcome Layout} → decode_for w (take 48 (drop (i * 48) s)) ≡ o → members_of w (n - i) (drop (i * 48) s) ≡ o ∷ ms
      here e = next w n i s h ∙ ap (λ (z : Outcome Layout). z ∷ ms) e

      go : (o : Outcome Layout) → decode_for w (take 48 (drop (i * 48) s)) ≡ o → Going w p n (i + 1) s P G then (set ps i place) (set gs i gap)
      go (answered m) e =
          lands g.layout m
          (subst (λ (zs : List Member). add_members (member_step w ported p) i g.layout zs ≡ composed g.whole) (here e) g.rest)
          g.ends
          (f m (ap (decode_for w) part ∙ e))
          (subst (λ (zs : List Member). P ≡ take i ps ++ places_of p g.layout zs) (here e) g.places)
          (subst (λ (zs : List Member). G ≡ take i gs ++ gaps_of p g.layout zs) (here e) g.gaps)
          x y
      go (refused k) e =
          absurd (apart (onward (member_step w ported p) i g.layout (refused k) ms
          (subst (λ (zs : List Member). add_members (member_step w ported p) i g.layout zs ≡ composed g.whole) (here e) g.rest)).taken)

pub going_ends : (w p n i : ℕ) (s P G : List ℕ) {end : ℕ} {ps gs : List ℕ} → n ≤ i → length ps ≡ n → length gs ≡ n → Going w p n i s P G end ps gs → (ps ≡ P) × (gs ≡ G)
unfolding members_of states
going_ends w p n i s P G {end} {ps} {gs} h x y g =
    let e : n - i ≡ 0 = omega arith in
    let a : P ≡ take i ps ++ [] = subst (λ (k : ℕ). P ≡ take i ps ++ places_of p g.layout (members_of w k (drop (i * 48) s))) e g.places in
    let b : G ≡ take i gs ++ [] = subst (λ (k : ℕ). G ≡ take i gs ++ gaps_of p g.layout (members_of w k (drop (i * 48) s))) e g.gaps in
    (sym (a ∙ append_nil (take i ps) ∙ take_all i ps (omega (arith, x))), sym (b ∙ append_nil (take i gs) ∙ take_all i gs (omega (arith, y))))

-- the composition with places by the length of the list and of the slices
pub struct_on : (w : ℕ) (heed : Bool) (a p : ℕ) (s : List ℕ) → length s % 48 ≡ 0 → struct_for w heed a p s ≡ compose_struct w heed a p (listed w s)
unfolding struct_for
struct_on w heed a p s h = rw (eq-eqb (length s % 48) 0 h)

pub composes_of : (w a p : ℕ) (ms : List Member) {r : Layout} → compose_struct w ported a p ms ≡ composed r → Composes w a p ms
composes_of w a p ms e = let c = closed w a p ms e in record { whole = c.whole; composes = c.composes }

pub places_on : (w a p : ℕ) (s : List ℕ) (m n : ℕ) → length s % 48 ≡ 0 → (eqb m (length s / 48) && eqb n (length s / 48)) ≡ true → places_for w a p s m n ≡ compose_struct w ported a p (listed w s)
unfolding places_for
places_on w a p s m n h e = rw (eq-eqb (length s % 48) 0 h, members_length w (length s / 48) s, e)

pub places_off : (w a p : ℕ) (s : List ℕ) (m n : ℕ) → length s % 48 ≡ 0 → (eqb m (length s / 48) && eqb n (length s / 48)) ≡ false → places_for w a p s m n ≡ refused_at 24 0
unfolding places_for
places_off w a p s m n h e = rw (eq-eqb (length s % 48) 0 h, members_length w (length s / 48) s, e)

pub places_length : (w a p : ℕ) (s : List ℕ) (m n : ℕ) → (length s % 48 ≡ 0 → ⊥) → places_for w a p s m n ≡ refused_at 20 0
unfolding places_for
places_length w a p s m n h = rw (ne_eqb (length s % 48) 0 h)

-- a refusal writes nothing
pub nothing_written : (k i : ℕ) (new old : List ℕ) → written (refused_at k i) new old ≡ old
nothing_written k i new old = refl

-- what was written of a list of whole records means what it should
pub list_places_mean : (w a p : ℕ) (s old old' : List ℕ) (c : Composed) {ps gs : List ℕ} → c ≡ compose_struct w ported a p (listed w s)
    → ps ≡ written c (places_of p (empty_layout a) (listed w s)) old → gs ≡ written c (gaps_of p (empty_layout a) (listed w s)) old' → ListPlacesMean w p s ps gs c
list_places_mean w a p s old old' (composed l) {ps} {gs} e f g =
    subst (λ (x : List ℕ). PlacesMean p (listed w s) x gs l) (sym f)
    (subst (λ (x : List ℕ). PlacesMean p (listed w s) (places_of p (empty_layout a) (listed w s)) x l) (sym g) (places_mean w a p (listed w s) (sym e)))
list_places_mean w a p s old old' (refused_at k i) e f g = tt
