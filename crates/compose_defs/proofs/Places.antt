-- The places of members, over any width w: what they mean, and that a later member moves none. Assumes nothing.
use mathlib.Core.Path.{◌≡◌, refl, sym, subst, ap, ◌∙◌}
use mathlib.Core.Bool.{Bool, true, false, cond}
use mathlib.Core.List.{List, [], ◌∷◌}
use Prim.Native.Nat.{ℕ, zero, suc, ◌+◌, ◌-◌, ◌≤◌, ◌<◌}
use native.Mathlib.Omega.{arith}
use borrow.Author.Tests.{not-false}
use lib.Dec.{ltb}
use lib.ListN.{take}
use Rattle.util_defs.specs.Power.{power_of_two}
use Rattle.util_defs.specs.Round.{up, padding}
use Rattle.util_defs.specs.Refusal.{answered, refused}
use Rattle.util_defs.proofs.Powers.{positive, test_sound}
use Rattle.util_defs.proofs.Rounding.{up_ge, up_padding}
use Rattle.util_defs.proofs.Tables.{apart, answer_is, passed, passed_both}
use Rattle.trailing_defs.specs.Size.{Trailing, A}
use Rattle.layout_defs.specs.Layout.{Info, fixed, trailing, Layout, layout_causes}
use Rattle.layout_defs.specs.Extend.{member_align, preceding_size, place_of, placed_at, extended, LeastPlace, rounding_passes}
use Rattle.layout_defs.proofs.Passes.{least_place}
use Rattle.layout_defs.proofs.Only.{one_place}
use Rattle.make.specs.Make.{empty_layout}
use Rattle.padding_defs.specs.Pad.{coarser, finer, padded_tail, padded_info, padded, padding_needs, pad_causes, pad_for}
use Rattle.compose_defs.specs.Compose.{composed, Member, member_step, ported, add_members, compose_struct}
use Rattle.compose_defs.specs.Places.{states, places_of, gaps_of, member_size, Stand, none, one, ElementsAt, here, after, total, sizes, PlacesMean, NeverMoves}
use Rattle.compose_defs.proofs.Accepted.{Went, went, Onward, onward, nothing_more, closed}

-- the layout after a step has the member's size behind its place
pub info_after : (l m : Layout) (p : ℕ) {r : Layout} → r ≡ extended l m p → r.info ≡ placed_at (place_of l m p) m.info
unfolding extended
info_after l m p e = ap (λ (x : Layout). x.info) e

-- a fixed layout is not trailing
not_trailing : {i : Info} {s : ℕ} {t : Trailing} → i ≡ fixed s → i ≡ trailing t → ⊥
not_trailing e g = let z : ◌≡◌ {A = ℕ} 0 1 = cc in omega arith

same_offset : {t u : Trailing} → trailing t ≡ trailing u → t.offset ≡ u.offset
same_offset {t} {u} e = let z : t ≡ u = cc in ap (λ (x : Trailing). x.offset) z

-- an accepted step puts the member at the least place
module _ (w p : ℕ) (l m : Layout) {end : ℕ} (h : l.info ≡ fixed end) {r : Layout} (x : Went w p l m r) where
  pub place_is : place_of l m p ≡ up end (member_align m.align p)
  place_is = ap (λ (i : Info). up (preceding_size i) (member_align m.align p)) h

  pub place_least : LeastPlace end (member_align m.align p) (place_of l m p)
  place_least = subst (LeastPlace end (member_align m.align p)) (sym place_is) (least_place end (member_align m.align p) (positive x.power))

  pub gap_between : end + (place_of l m p - preceding_size l.info) ≡ place_of l m p
  gap_between =
      let e : preceding_size l.info ≡ end = ap preceding_size h in
      omega (arith, place_least.after)

-- what the composition of the rest says
pub record Standing (p end : ℕ) (ms : List Member) (qs gs : List ℕ) (r : Layout) : Type 0 where
  pub last : ℕ
  pub stand : Stand p end ms qs gs last
  pub sum : end + (total gs + sizes ms) ≡ last
  pub sized : (s : ℕ) → r.info ≡ fixed s → s ≡ last
  pub opens : (t : Trailing) → r.info ≡ trailing t → ElementsAt t.offset ms qs

-- nothing follows a trailing member
alone : (w p : ℕ) (ms : List Member) (i : ℕ) (l : Layout) {t : Trailing} → l.info ≡ trailing t → {r : Layout} → add_members (member_step w ported p) i l ms ≡ composed r → (ms ≡ []) × (l ≡ r)
alone w p [] i l e g = (refl, nothing_more (member_step w ported p) i l g)
alone w p (answered m ∷ ms) i l e g =
    let x = onward (member_step w ported p) i l (answered m) ms g in
    absurd (not_trailing (went w p l m x.taken).before e)
alone w p (refused k ∷ ms) i l e g = absurd (apart (onward (member_step w ported p) i l (refused k) ms g).taken)

-- one member more in front of the rest
module _ (w p : ℕ) (l m : Layout) (ms : List Member) {end : ℕ} (h : l.info ≡ fixed end) {n : Layout} (x : Went w p l m n) where
  with_fixed : (s : ℕ) → m.info ≡ fixed s → {r : Layout} → Standing p (place_of l m p + s) ms (places_of p n ms) (gaps_of p n ms) r
      → Standing p end (answered m ∷ ms) (places_of p l (answered m ∷ ms)) (gaps_of p l (answered m ∷ ms)) r
  unfolding states
  with_fixed s e {r} y =
      let n' = extended l m p in
      let y' : Standing p (place_of l m p + s) ms (places_of p n' ms) (gaps_of p n' ms) r = subst (λ (k : Layout). Standing p (place_of l m p + s) ms (places_of p k ms) (gaps_of p k ms) r) x.is y in
      let k : preceding_size m.info ≡ s = ap preceding_size e in
      record {
        last = y'.last;
        stand = one (place_least w p l m h x) (gap_between w p l m h x) (subst (λ (z : ℕ). Stand p (place_of l m p + z) ms (places_of p n' ms) (gaps_of p n' ms) y'.last) (sym k) y'.stand);
        sum = omega (arith, gap_between w p l m h x, y'.sum);
        sized = y'.sized;
        opens = λ t f. after (y'.opens t f);
      }

  with_trailing : (t : Trailing) → m.info ≡ trailing t → Standing p end (answered m ∷ []) (places_of p l (answered m ∷ [])) (gaps_of p l (answered m ∷ [])) n
  unfolding states
  with_trailing t e =
      let k : preceding_size m.info ≡ 0 = ap preceding_size e in
      record {
        last = place_of l m p + preceding_size m.info;
        stand = one (place_least w p l m h x) (gap_between w p l m h x) none;
        sum = omega (arith, gap_between w p l m h x);
        sized = λ s f. absurd (not_trailing f (info_after l m p x.is ∙ ap (placed_at (place_of l m p)) e));
        opens = λ u f. here e (same_offset (sym (info_after l m p x.is ∙ ap (placed_at (place_of l m p)) e) ∙ f));
      }

pub stands : (w p : ℕ) (ms : List Member) (i : ℕ) (l : Layout) {end : ℕ} → l.info ≡ fixed end → {r : Layout} → add_members (member_step w ported p) i l ms ≡ composed r → Standing p end ms (places_of p l ms) (gaps_of p l ms) r
unfolding states
stands w p [] i l {end} h e =
    let g = nothing_more (member_step w ported p) i l e in
    let k = ap (λ (x : Layout). x.info) g in
    record { last = end; stand = none; sum = omega arith; sized = λ s f. let z : fixed s ≡ fixed end = sym f ∙ sym k ∙ h in cc; opens = λ t f. absurd (not_trailing (sym k ∙ h) f) }
stands w p (refused k ∷ ms) i l h e = absurd (apart (onward (member_step w ported p) i l (refused k) ms e).taken)
stands w p (answered m ∷ ms) i l {end} h {r} e =
    let x = onward (member_step w ported p) i l (answered m) ms e in
    let y = went w p l m x.taken in
    go x.next y x.rest m.info refl (λ n q g f. stands w p ms (suc i) n {end = q} g f)
  where
    go : (n : Layout) → Went w p l m n → add_members (member_step w ported p) (suc i) n ms ≡ composed r → (j : Info) → m.info ≡ j
        → ((n : Layout) (q : ℕ) → n.info ≡ fixed q → add_members (member_step w ported p) (suc i) n ms ≡ composed r → Standing p q ms (places_of p n ms) (gaps_of p n ms) r)
        → Standing p end (answered m ∷ ms) (places_of p l (answered m ∷ ms)) (gaps_of p l (answered m ∷ ms)) r
    go n y f (fixed s) k rec = with_fixed w p l m ms h y s k (rec n (place_of l m p + s) (info_after l m p y.is ∙ ap (placed_at (place_of l m p)) k) f)
    go n y f (trailing t) k rec =
        let a = alone w p ms (suc i) n (info_after l m p y.is ∙ ap (placed_at (place_of l m p)) k) f in
        subst (λ (ns : List Member). Standing p end (answered m ∷ ns) (places_of p l (answered m ∷ ns)) (gaps_of p l (answered m ∷ ns)) r) (sym a.0)
        (subst (Standing p end (answered m ∷ []) (places_of p l (answered m ∷ [])) (gaps_of p l (answered m ∷ []))) a.1 (with_trailing w p l m ms h y t k))

-- the closing padding: a fixed size is rounded up, the elements of a trailing part stay where they begin
padded_fixed : (w a : ℕ) (i : Info) (s : ℕ) → padded_info w a i ≡ fixed s → (t : ℕ) × ((i ≡ fixed t) × (up t a ≡ s))
padded_fixed w a (fixed t) s e = let z : up t a ≡ s = cc in (t, (refl, z))
padded_fixed w a (trailing u) s e = absurd (not_trailing e refl)

padded_trailing : (w a : ℕ) (i : Info) (t : Trailing) → padded_info w a i ≡ trailing t → (u : Trailing) × ((i ≡ trailing u) × (u.offset ≡ t.offset))
unfolding padded_tail
padded_trailing w a (fixed s) t e = absurd (not_trailing refl e)
padded_trailing w a (trailing u) t e = (u, (refl, sym (kept (ltb (A w u) a)) ∙ same_offset e))
  where
    kept : (b : Bool) → (cond b (coarser w a u) (finer a u)).offset ≡ u.offset
    kept true = refl
    kept false = refl

rounded_up : (n : ℕ) {last t s A : ℕ} → 0 < A → 0 + n ≡ last → t ≡ last → up t A ≡ s → (n + padding last A ≡ s) × (last ≤ s)
rounded_up n {last} {t} {s} {A} pos sum e g =
    let u : up last A ≡ s = ap (λ (v : ℕ). up v A) (sym e) ∙ g in
    (omega (arith, up_padding last A pos), omega (arith, up_ge last A pos))

-- what was written means what it should
pub places_mean : (w a p : ℕ) (ms : List Member) {r : Layout} → compose_struct w ported a p ms ≡ composed r
    → PlacesMean p ms (places_of p (empty_layout a) ms) (gaps_of p (empty_layout a) ms) r
unfolding pad_for padded
places_mean w a p ms {r} e =
    let c = closed w a p ms e in
    let l = c.whole in
    let x = stands w p ms 0 (empty_layout a) refl c.composes in
    let g : r ≡ padded w l = answer_is (pad_causes w l) (padded w l) c.closes in
    let k : r.align ≡ l.align = ap (λ (z : Layout). z.align) g in
    let i : r.info ≡ padded_info w l.align l.info = ap (λ (z : Layout). z.info) g in
    let pass = passed_both (layout_causes w l) (rounding_passes w (padding_needs w l.align l.info) ∷ []) (passed (pad_causes w l) (padded w l) c.closes) in
    let pos : 0 < l.align = positive (test_sound w l.align (not-false (power_of_two w l.align) pass.0.0)) in
    record {
      last = x.last;
      stand = x.stand;
      adds = λ s f.
          let y = padded_fixed w l.align l.info s (sym i ∙ f) in
          subst (λ (b : ℕ). total (gaps_of p (empty_layout a) ms) + sizes ms + padding x.last b ≡ s) (sym k) (rounded_up (total (gaps_of p (empty_layout a) ms) + sizes ms) pos x.sum (x.sized y.0 y.1.0) y.1.1).0;
      ends = λ s f.
          let y = padded_fixed w l.align l.info s (sym i ∙ f) in
          (rounded_up (total (gaps_of p (empty_layout a) ms) + sizes ms) pos x.sum (x.sized y.0 y.1.0) y.1.1).1;
      elements = λ t f.
          let y = padded_trailing w l.align l.info t (sym i ∙ f) in
          subst (λ (o : ℕ). ElementsAt o ms (places_of p (empty_layout a) ms)) y.1.1 (x.opens y.0 y.1.0);
    }

-- nothing else is: the members, the packing and where they begin leave one list of places and one of gaps
same_stand : {p end end' : ℕ} {ms : List Member} {qs gs qs' gs' : List ℕ} {last last' : ℕ} → end ≡ end' → Stand p end ms qs gs last → Stand p end' ms qs' gs' last'
    → (qs ≡ qs') × ((gs ≡ gs') × (last ≡ last'))
same_stand e none none = (refl, (refl, e))
same_stand {p} {end} {end'} e (one {q = q} {g = g} {m = m} {qs = qs} {gs = gs} a b c) (one {q = r} {g = h} {qs = rs} {gs = hs} a' b' c') =
    let k : q ≡ r = one_place (subst (λ (z : ℕ). LeastPlace z (member_align m.align p) q) e a) a' in
    let f : g ≡ h = omega (arith, b, b') in
    let x = same_stand (ap (λ (z : ℕ). z + member_size (answered m)) k) c c' in
    (ap (λ (z : ℕ). z ∷ qs) k ∙ ap (λ (zs : List ℕ). r ∷ zs) x.0, (ap (λ (z : ℕ). z ∷ gs) f ∙ ap (λ (zs : List ℕ). h ∷ zs) x.1.0, x.1.1))

pub one_places : {p : ℕ} {ms : List Member} {qs gs qs' gs' : List ℕ} {l l' : Layout} → PlacesMean p ms qs gs l → PlacesMean p ms qs' gs' l' → (qs ≡ qs') × (gs ≡ gs')
one_places x y = let z = same_stand refl x.stand y.stand in (z.0, z.1.0)

-- a later member moves none: the places before an index hang on the members before it
not_empty : {m : Member} {ms : List Member} → ◌≡◌ {A = List Member} [] (m ∷ ms) → ⊥
not_empty e = let z : ◌≡◌ {A = ℕ} 0 1 = cc in omega arith

module _ (w p i : ℕ) (m : Layout) (ms ns : List Member) (j k : ℕ) (l l' : Layout) {end : ℕ} (h : l.info ≡ fixed end) (h' : l'.info ≡ fixed end) where
  same_place : place_of l m p ≡ place_of l' m p
  same_place = ap (λ (x : Info). up (preceding_size x) (member_align m.align p)) (h ∙ sym h')

  same_head : {r r' : Layout} → add_members (member_step w ported p) j l (answered m ∷ ms) ≡ composed r → add_members (member_step w ported p) k l' (answered m ∷ ns) ≡ composed r'
      → ((n n' : Layout) (q : ℕ) → n.info ≡ fixed q → n'.info ≡ fixed q → add_members (member_step w ported p) (suc j) n ms ≡ composed r
      → add_members (member_step w ported p) (suc k) n' ns ≡ composed r' → take i (places_of p n ms) ≡ take i (places_of p n' ns))
      → take (suc i) (places_of p l (answered m ∷ ms)) ≡ take (suc i) (places_of p l' (answered m ∷ ns))
  unfolding states
  same_head {r} {r'} e e' rec = ap (λ (q : ℕ). q ∷ take i (places_of p (extended l m p) ms)) same_place ∙ ap (λ (qs : List ℕ). place_of l' m p ∷ qs) (rest m.info refl)
    where
      x : Onward (member_step w ported p) j l (answered m) ms r
      x = onward (member_step w ported p) j l (answered m) ms e

      x' : Onward (member_step w ported p) k l' (answered m) ns r'
      x' = onward (member_step w ported p) k l' (answered m) ns e'

      y : x.next ≡ extended l m p
      y = (went w p l m x.taken).is

      y' : x'.next ≡ extended l' m p
      y' = (went w p l' m x'.taken).is

      goes : add_members (member_step w ported p) (suc j) (extended l m p) ms ≡ composed r
      goes = subst (λ (z : Layout). add_members (member_step w ported p) (suc j) z ms ≡ composed r) y x.rest

      goes' : add_members (member_step w ported p) (suc k) (extended l' m p) ns ≡ composed r'
      goes' = subst (λ (z : Layout). add_members (member_step w ported p) (suc k) z ns ≡ composed r') y' x'.rest

      rest : (f : Info) → m.info ≡ f → take i (places_of p (extended l m p) ms) ≡ take i (places_of p (extended l' m p) ns)
      rest (fixed s) z =
          rec (extended l m p) (extended l' m p) (place_of l m p + s) (info_after l m p refl ∙ ap (placed_at (place_of l m p)) z)
          (info_after l' m p refl ∙ ap (placed_at (place_of l' m p)) z ∙ ap (λ (q : ℕ). fixed (q + s)) (sym same_place)) goes goes'
      rest (trailing t) z =
          let a = alone w p ms (suc j) (extended l m p) (info_after l m p refl ∙ ap (placed_at (place_of l m p)) z) goes in
          let b = alone w p ns (suc k) (extended l' m p) (info_after l' m p refl ∙ ap (placed_at (place_of l' m p)) z) goes' in
          ap (λ (zs : List Member). take i (places_of p (extended l m p) zs)) a.0 ∙ sym (ap (λ (zs : List Member). take i (places_of p (extended l' m p) zs)) b.0)

places_before : (w p : ℕ) (ms ns : List Member) (i j k : ℕ) (l l' : Layout) {end : ℕ} → l.info ≡ fixed end → l'.info ≡ fixed end → {r r' : Layout}
    → add_members (member_step w ported p) j l ms ≡ composed r → add_members (member_step w ported p) k l' ns ≡ composed r'
    → take i ms ≡ take i ns → take i (places_of p l ms) ≡ take i (places_of p l' ns)
unfolding states
places_before w p ms ns zero j k l l' h h' e e' g = refl
places_before w p [] [] (suc i) j k l l' h h' e e' g = refl
places_before w p [] (n ∷ ns) (suc i) j k l l' h h' e e' g = absurd (not_empty g)
places_before w p (m ∷ ms) [] (suc i) j k l l' h h' e e' g = absurd (not_empty (sym g))
places_before w p (refused o ∷ ms) (n ∷ ns) (suc i) j k l l' h h' e e' g = absurd (apart (onward (member_step w ported p) j l (refused o) ms e).taken)
places_before w p (answered m ∷ ms) (refused o ∷ ns) (suc i) j k l l' h h' e e' g = absurd (apart (onward (member_step w ported p) k l' (refused o) ns e').taken)
places_before w p (answered m ∷ ms) (answered n ∷ ns) (suc i) j k l l' {end} h h' {r} {r'} e e' g =
    let mn : m ≡ n = cc in
    let gs : take i ms ≡ take i ns = cc in
    subst (λ (z : Layout). take (suc i) (places_of p l (answered m ∷ ms)) ≡ take (suc i) (places_of p l' (answered z ∷ ns))) mn
    (same_head w p i m ms ns j k l l' h h' e (subst (λ (z : Layout). add_members (member_step w ported p) k l' (answered z ∷ ns) ≡ composed r') (sym mn) e')
    (λ n₁ n₂ q a b c d. places_before w p ms ns i (suc j) (suc k) n₁ n₂ {end = q} a b c d gs))

pub never_moves : (w packing a b : ℕ) (ms ns : List Member) → NeverMoves w packing a b ms ns
never_moves w packing a b ms ns i k l e f g =
    places_before w packing ms ns i 0 0 (empty_layout a) (empty_layout b) refl refl (closed w a packing ms e).composes (closed w b packing ns f).composes g
