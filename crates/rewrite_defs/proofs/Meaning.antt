-- What a rewriting gives is what it means. Assumes nothing.
use mathlib.Core.Path.{◌≡◌, refl, sym, ap, subst, ◌∙◌}
use mathlib.Core.Bool.{Bool, true, false, cond}
use mathlib.Core.List.{List, [], ◌∷◌, ◌++◌}
use Prim.Native.Nat.{ℕ, ◌+◌, ◌≤◌}
use native.Mathlib.Omega.{arith}
use borrow.Author.Tests.{leb-false, lt-leb}
use lib.Dec.{leb}
use lib.ListN.{length, drop, length-append}
use Rattle.util_defs.specs.Placed.{Placed, reached, stopped, go_on}
use Rattle.layout_defs.specs.Layout.{Layout}
use Rattle.scalar.specs.Scalar.{Target}
use Rattle.describe_defs.specs.Describe.{described_for}
use Rattle.describe_defs.proofs.Steps.{not_stopped}
use Rattle.describe_defs.proofs.Meaning.{accepted, accepts}
use Rattle.rewrite_defs.specs.Heads.{heads_of, joined}
use Rattle.rewrite_defs.specs.Rewrite.{Way, count_above, counts_fit, rewritten, room_for, rewrite_for, bytes_for, filled}
use Rattle.rewrite_defs.specs.Means.{Fits, Refused, unread, above, no_room, RewriteMeans, OneAnswer}
use Rattle.rewrite_defs.proofs.Trips.{fits, fit_so, found, rewrite_on, is_rewritten, one_rewriting}

-- where counts do not fit, the first head whose count is above
pub record Above (way : Way) (i : ℕ) (hs : List (List ℕ)) (k j : ℕ) : Type 0 where
  pub before : List (List ℕ)
  pub head : List ℕ
  pub after : List (List ℕ)
  pub number : k ≡ 44
  pub heads : hs ≡ before ++ head ∷ after
  pub place : j ≡ i + length (joined before)
  pub over : count_above way head ≡ true
  pub fit : Fits way before

stopped_place : {T : Type 0} {k k' i i' : ℕ} → ◌≡◌ {A = Placed T} (stopped k i) (stopped k' i') → (k ≡ k') × (i ≡ i')
stopped_place {T} {k} {k'} {i} {i'} e = (ap number e, ap place e)
  where
    number : Placed T → ℕ
    number (reached x) = 0
    number (stopped n p) = n

    place : Placed T → ℕ
    place (reached x) = 0
    place (stopped n p) = p

pub same_stop : {S T : Type 0} {k k' i i' : ℕ} → ◌≡◌ {A = Placed S} (stopped k i) (stopped k' i') → ◌≡◌ {A = Placed T} (stopped k i) (stopped k' i')
same_stop e = let x = stopped_place e in rw (x.0, x.1)

pub first_above : (way : Way) (i : ℕ) (hs : List (List ℕ)) (k j : ℕ) → counts_fit way i hs ≡ stopped k j → Above way i hs k j
unfolding counts_fit
first_above way i [] k j e = absurd (not_stopped (sym e))
first_above way i (h ∷ hs) k j e = go (count_above way h) refl e (λ f. first_above way (i + length h) hs k j f)
  where
    go : (b : Bool) → count_above way h ≡ b → cond b (stopped 44 i) (counts_fit way (i + length h) hs) ≡ stopped k j
        → (counts_fit way (i + length h) hs ≡ stopped k j → Above way (i + length h) hs k j) → Above way i (h ∷ hs) k j
    go true q e f =
        let x = stopped_place e in
        record { before = []; head = h; after = hs; number = sym x.0; heads = refl; place = omega (arith, x.1); over = q; fit = tt }
    go false q e f =
        let y = f e in
        record {
          before = h ∷ y.before;
          head = y.head;
          after = y.after;
          number = y.number;
          heads = ap (λ (z : List (List ℕ)). h ∷ z) y.heads;
          place = omega (arith, y.place, length-append h (joined y.before));
          over = y.over;
          fit = (q, y.fit);
        }

module _ (w : ℕ) (target : Target) (way : Way) (s : List ℕ) (m : ℕ) where
  pub why_refused : (k i : ℕ) → rewrite_for w target way s m ≡ stopped k i → Refused w target way s m k i
  unfolding rewrite_for
  why_refused k i e = go (described_for w target s) refl e
    where
      room : (l : Layout) → described_for w target s ≡ reached l → counts_fit way 0 (heads_of s) ≡ reached tt → (b : Bool) → leb (length (rewritten way s)) m ≡ b
          → cond b (reached (rewritten way s)) (stopped 45 0) ≡ stopped k i → Refused w target way s m k i
      room l d f true q e = absurd (not_stopped (sym e))
      room l d f false q e =
          let x = stopped_place e in
          subst (λ (z : ℕ). Refused w target way s m z i) x.0
          (subst (Refused w target way s m 45) x.1 (no_room l (accepts w target s d) (fits way 0 (heads_of s) f) (leb-false (length (rewritten way s)) m q)))

      counts : (l : Layout) → described_for w target s ≡ reached l → (p : Placed (Unit {0})) → counts_fit way 0 (heads_of s) ≡ p
          → go_on p (λ _. room_for (rewritten way s) m) ≡ stopped k i → Refused w target way s m k i
      counts l d (reached x) q e = room l d q (leb (length (rewritten way s)) m) refl e
      counts l d (stopped k' i') q e =
          let y = first_above way 0 (heads_of s) k i (q ∙ same_stop e) in
          subst (λ (z : ℕ). Refused w target way s m z i) (sym y.number)
          (above l (accepts w target s d) (record { before = y.before; head = y.head; after = y.after; heads = y.heads; place = omega (arith, y.place); above = y.over; fit = y.fit }))

      go : (p : Placed Layout) → described_for w target s ≡ p → go_on p (λ _. go_on (counts_fit way 0 (heads_of s)) (λ _. room_for (rewritten way s) m)) ≡ stopped k i
          → Refused w target way s m k i
      go (reached l) q e = counts l q (counts_fit way 0 (heads_of s)) refl e
      go (stopped k' i') q e = unread (q ∙ same_stop e)

-- what comes back and what the output holds mean what they should
pub rewrite_means : (w : ℕ) (target : Target) (way : Way) (s old : List ℕ)
    → RewriteMeans w target way s old (filled (rewrite_for w target way s (length old)) old) (bytes_for w target way s (length old))
rewrite_means w target way s old = go (rewrite_for w target way s (length old)) refl
  where
    go : (p : Placed (List ℕ)) → rewrite_for w target way s (length old) ≡ p → RewriteMeans w target way s old (filled p old) (go_on p (λ r. reached (length r)))
    go (reached r) e =
        let x = found w target way s (length old) r e in
        record {
          layout = x.layout;
          described = accepts w target s x.described;
          fit = x.fit;
          result = rewritten way s;
          room = subst (λ (z : List ℕ). length z ≤ length old) (sym x.is) x.room;
          is = is_rewritten w target way s x.layout (accepts w target s x.described) x.fit;
          count = ap length (sym x.is);
          bytes = ap (λ (z : List ℕ). z ++ drop (length r) old) (sym x.is);
        }
    go (stopped k i) e = (why_refused w target way s (length old) k i e, refl)

-- ---- and nothing else is
above_stops : (way : Way) (i : ℕ) (before : List (List ℕ)) (h : List ℕ) (after : List (List ℕ)) → Fits way before → count_above way h ≡ true
    → counts_fit way i (before ++ h ∷ after) ≡ stopped 44 (i + length (joined before))
unfolding counts_fit
above_stops way i [] h after f e = let z : i + 0 ≡ i = omega arith in rw (e, z)
above_stops way i (b ∷ before) h after f e =
    let z : i + length b + length (joined before) ≡ i + length (b ++ joined before) = omega (arith, length-append b (joined before)) in
    rw f.0 (above_stops way (i + length b) before h after f.1 e ∙ ap (stopped 44) z)

module _ (w : ℕ) (target : Target) (way : Way) (s : List ℕ) (m : ℕ) where
  refused_so : {k i : ℕ} → Refused w target way s m k i → rewrite_for w target way s m ≡ stopped k i
  unfolding rewrite_for
  refused_so (unread e) = rw e
  refused_so (above l d x) =
      let z : 0 + length (joined x.before) ≡ length (joined x.before) = omega arith in
      let e : counts_fit way 0 (heads_of s) ≡ stopped 44 (length (joined x.before)) =
      ap (counts_fit way 0) x.heads ∙ above_stops way 0 x.before x.head x.after x.fit x.above ∙ ap (stopped 44) z in
      rw (accepted w target s d, e, x.place)
  refused_so (no_room l d f h) = rw (accepted w target s d, fit_so way 0 (heads_of s) f, lt-leb (length (rewritten way s)) m h)

pub one_answer : (w : ℕ) (target : Target) (way : Way) → OneAnswer w target way
one_answer w target way s old new (reached n) x =
    let r : x.result ≡ rewritten way s =
    one_rewriting w target way s x.result (rewritten way s) x.layout x.described x.is (is_rewritten w target way s x.layout x.described x.fit) in
    let e = rewrite_on w target way s (length old) x.layout (accepted w target s x.described) x.fit (subst (λ (z : List ℕ). length z ≤ length old) r x.room) in (
      ap reached (x.count ∙ ap length r) ∙ sym (ap (λ (p : Placed (List ℕ)). go_on p (λ z. reached (length z))) e),
      x.bytes ∙ ap (λ (k : ℕ). x.result ++ drop k old) x.count ∙ ap (λ (z : List ℕ). z ++ drop (length z) old) r ∙ sym (ap (λ (p : Placed (List ℕ)). filled p old) e),
    )
one_answer w target way s old new (stopped k i) x =
    let e = refused_so w target way s (length old) x.0 in (
      sym (ap (λ (p : Placed (List ℕ)). go_on p (λ z. reached (length z))) e),
      x.1 ∙ sym (ap (λ (p : Placed (List ℕ)). filled p old) e),
    )
