-- A rewritten description describes the same layout. Assumes nothing.
use mathlib.Core.Path.{◌≡◌, refl, sym, ap, subst, ◌∙◌}
use mathlib.Core.Bool.{false}
use mathlib.Core.List.{List, [], ◌∷◌, ◌++◌, map}
use Prim.Native.Nat.{ℕ, zero, suc, ◌+◌, ◌-◌, ◌*◌, ◌≤◌, ◌<◌}
use native.Mathlib.Omega.{arith}
use borrow.Author.Tests.{ne_eqb, ltb-false}
use lib.ListN.{length, take, drop, get_or, length-append, length-drop, get_or-append}
use lib.Seq.{drop-drop, drop_at, get_or-drop, drop-append-le, take-append-le}
use Rattle.layout_defs.specs.Layout.{Layout}
use Rattle.scalar.specs.Scalar.{Target}
use Rattle.words.specs.Bytes.{value_of}
use Rattle.describe_defs.specs.Describe.{Counted, by_one, by_two, struct_tag, count_bytes, tag_of}
use Rattle.describe_defs.specs.Grammar.{Stands, IsByte, IsPower, IsCount, Run, none, one, Header, ScalarIs, a_code, PartIs, a_scalar, an_array, a_struct, a_slice, Describes}
use Rattle.describe_defs.proofs.Steps.{tag_code}
use Rattle.rewrite_defs.specs.Heads.{behind_tag, joined}
use Rattle.rewrite_defs.specs.Rewrite.{Way, longer, shorter, turned_head, count_above}
use Rattle.rewrite_defs.specs.Means.{Fits}
use Rattle.rewrite_defs.proofs.Whole.{AllWhole}

-- ---- bytes and counts of a head that stands at t
module _ (s h v : List ℕ) (t : ℕ) (e : drop t s ≡ h ++ v) where
  pub head_room : (i : ℕ) → 0 < i → i ≤ length h → t + i ≤ length s
  head_room i p l = omega (arith, length-drop t s, ap length e ∙ length-append h v)

  pub byte_in : (i : ℕ) → i < length h → IsByte s (t + i) (get_or h i 0)
  byte_in i l = record {
    within = omega (arith, length-drop t s, ap length e ∙ length-append h v);
    is = sym (get_or-drop t s i 0) ∙ ap (λ (z : List ℕ). get_or z i 0) e ∙ get_or-append h v 0 i l;
  }

  pub count_in : (k i : ℕ) → 0 < i → i + k ≤ length h → IsCount k s (t + i) (value_of (take k (drop i h)))
  count_in k i p l = record {
    within = omega (arith, head_room (i + k) (omega arith) l);
    is = ap (λ (z : List ℕ). value_of (take k z)) (sym (drop-drop i t s) ∙ ap (drop i) e ∙ drop-append-le i h v (omega arith))
        ∙ ap value_of (take-append-le k (drop i h) v (omega (arith, length-drop i h)));
  }

  pub past_head : (k : ℕ) → length h ≡ k → drop (t + k) s ≡ v
  past_head k l = sym (drop-drop k t s) ∙ ap (drop k) e ∙ drop_at h v k l

-- what stands at a place is one number
byte_one : (s : List ℕ) (i : ℕ) {b c : ℕ} → IsByte s i b → IsByte s i c → b ≡ c
byte_one s i h g = sym h.is ∙ g.is

count_one : (k : ℕ) (s : List ℕ) (i : ℕ) {n m : ℕ} → IsCount k s i n → IsCount k s i m → n ≡ m
count_one k s i h g = sym h.is ∙ g.is

-- ---- the header of a struct, at two places
module _ (w : ℕ) (s h v : List ℕ) (t : ℕ) (e : drop t s ≡ h ++ v) (s' h' v' : List ℕ) (t' : ℕ) (e' : drop t' s' ≡ h' ++ v') where
  power_over : (i : ℕ) {a : ℕ} → i < length h → i < length h' → get_or h i 0 ≡ get_or h' i 0 → IsPower w s (t + i) a → IsPower w s' (t' + i) a
  power_over i l l' q p = record {
    byte = p.byte;
    at = subst (IsByte s' (t' + i)) (sym q ∙ byte_one s (t + i) (byte_in s h v t e i l) p.at) (byte_in s' h' v' t' e' i l');
    most = p.most;
    fits = p.fits;
    is = p.is;
  }

  pub header_over : (c c' : Counted) {align packing n : ℕ} → length h ≡ 3 + count_bytes c → length h' ≡ 3 + count_bytes c'
      → get_or h' 0 0 ≡ struct_tag c' → get_or h 1 0 ≡ get_or h' 1 0 → get_or h 2 0 ≡ get_or h' 2 0
      → value_of (take (count_bytes c) (drop 3 h)) ≡ value_of (take (count_bytes c') (drop 3 h'))
      → Header w s t c align packing n → Header w s' t' c' align packing n
  header_over c c' l l' q a p n x = record {
    tag = subst (IsByte s' t') q (subst (λ (i : ℕ). IsByte s' i (get_or h' 0 0)) (omega arith) (byte_in s' h' v' t' e' 0 (omega arith)));
    aligned = power_over 1 (omega arith) (omega arith) a x.aligned;
    packed = power_over 2 (omega arith) (omega arith) p x.packed;
    count = subst (IsCount (count_bytes c') s' (t' + 3))
        (sym n ∙ count_one (count_bytes c) s (t + 3) (count_in s h v t e (count_bytes c) 3 (omega arith) (omega arith)) x.count)
        (count_in s' h' v' t' e' (count_bytes c') 3 (omega arith) (omega arith));
  }

-- ---- the head of a struct, turned or kept
pub record StructTurns (way : Way) (c : Counted) (h : List ℕ) : Type 0 where
  pub to : Counted
  pub old : length h ≡ 3 + count_bytes c
  pub new : length (turned_head way h) ≡ 3 + count_bytes to
  pub tag : get_or (turned_head way h) 0 0 ≡ struct_tag to
  pub align : get_or h 1 0 ≡ get_or (turned_head way h) 1 0
  pub packing : get_or h 2 0 ≡ get_or (turned_head way h) 2 0
  pub count : value_of (take (count_bytes c) (drop 3 h)) ≡ value_of (take (count_bytes to) (drop 3 (turned_head way h)))

pub struct_turns : (way : Way) (c : Counted) (r : List ℕ) → length r ≡ 2 + count_bytes c → count_above way (struct_tag c ∷ r) ≡ false → StructTurns way c (struct_tag c ∷ r)
unfolding value_of
struct_turns longer by_one (a ∷ p ∷ n ∷ []) l f = record { to = by_two; old = refl; new = refl; tag = refl; align = refl; packing = refl; count = refl }
struct_turns longer by_two r l f = record { to = by_two; old = ap suc l; new = ap suc l; tag = refl; align = refl; packing = refl; count = refl }
struct_turns shorter by_one r l f = record { to = by_one; old = ap suc l; new = ap suc l; tag = refl; align = refl; packing = refl; count = refl }
struct_turns shorter by_two (a ∷ p ∷ n ∷ m ∷ []) l f =
    let b = ltb-false 255 (n + 256 * (m + 256 * 0)) f in
    record { to = by_one; old = refl; new = refl; tag = refl; align = refl; packing = refl; count = omega (arith, b) }
struct_turns longer by_one [] l f = absurd (omega arith)
struct_turns longer by_one (a ∷ []) l f = absurd (omega arith)
struct_turns longer by_one (a ∷ p ∷ []) l f = absurd (omega arith)
struct_turns longer by_one (a ∷ p ∷ n ∷ x ∷ r) l f = absurd (omega arith)
struct_turns shorter by_two [] l f = absurd (omega arith)
struct_turns shorter by_two (a ∷ []) l f = absurd (omega arith)
struct_turns shorter by_two (a ∷ p ∷ []) l f = absurd (omega arith)
struct_turns shorter by_two (a ∷ p ∷ n ∷ []) l f = absurd (omega arith)
struct_turns shorter by_two (a ∷ p ∷ n ∷ m ∷ x ∷ r) l f = absurd (omega arith)

-- ---- from a place on in the one, and from a place on in the other, stand the same heads, there turned
pub record Rest (way : Way) (s s' : List ℕ) (t t' : ℕ) : Type 0 where
  pub heads : List (List ℕ)
  pub whole : AllWhole heads
  pub fit : Fits way heads
  pub here : drop t s ≡ joined heads
  pub there : drop t' s' ≡ joined (map (turned_head way) heads)

-- the head at both places, by its tag
pub record Head (way : Way) (s s' : List ℕ) (t t' b : ℕ) : Type 0 where
  pub tail : List ℕ
  pub next : List (List ℕ)
  pub whole : length tail ≡ behind_tag (tag_of b)
  pub fits : count_above way (b ∷ tail) ≡ false
  pub here : drop t s ≡ (b ∷ tail) ++ joined next
  pub there : drop t' s' ≡ turned_head way (b ∷ tail) ++ joined (map (turned_head way) next)
  pub all_whole : AllWhole next
  pub all_fit : Fits way next

head_at : (way : Way) (s s' : List ℕ) (t t' b : ℕ) → Rest way s s' t t' → IsByte s t b → Head way s s' t t' b
head_at way s s' t t' b x h = go x.heads x.whole x.fit x.here x.there
  where
    go : (hs : List (List ℕ)) → AllWhole hs → Fits way hs → drop t s ≡ joined hs → drop t' s' ≡ joined (map (turned_head way) hs) → Head way s s' t t' b
    go [] w f e e' = absurd (omega (arith, h.within, length-drop t s, ap length e))
    go ([] ∷ hs) w f e e' = absurd w.0
    go ((c ∷ r) ∷ hs) w f e e' =
        let q : IsByte s t c = subst (λ (i : ℕ). IsByte s i c) (omega arith) (byte_in s (c ∷ r) (joined hs) t e 0 (omega arith)) in
        subst (Head way s s' t t') (byte_one s t q h)
        (record { tail = r; next = hs; whole = w.0; fits = f.0; here = e; there = e'; all_whole = w.1; all_fit = f.1 })

module _ (way : Way) (s s' : List ℕ) (t t' b : ℕ) (x : Head way s s' t t' b) where
  -- behind it
  behind : (k k' : ℕ) → length (b ∷ x.tail) ≡ k → length (turned_head way (b ∷ x.tail)) ≡ k' → Rest way s s' (t + k) (t' + k')
  behind k k' l l' = record {
    heads = x.next;
    whole = x.all_whole;
    fit = x.all_fit;
    here = past_head s (b ∷ x.tail) (joined x.next) t x.here k l;
    there = past_head s' (turned_head way (b ∷ x.tail)) (joined (map (turned_head way) x.next)) t' x.there k' l';
  }

  -- a head that is kept: the same tag, and the same count behind it
  kept_tag : turned_head way (b ∷ x.tail) ≡ b ∷ x.tail → IsByte s' t' b
  kept_tag e =
      subst (λ (i : ℕ). IsByte s' i b) (omega arith)
      (byte_in s' (b ∷ x.tail) (joined (map (turned_head way) x.next)) t' (x.there ∙ ap (λ (h : List ℕ). h ++ joined (map (turned_head way) x.next)) e) 0 (omega arith))

  kept_count : turned_head way (b ∷ x.tail) ≡ b ∷ x.tail → (k n : ℕ) → length x.tail ≡ k → IsCount k s (t + 1) n → IsCount k s' (t' + 1) n
  kept_count e k n l c =
      subst (IsCount k s' (t' + 1)) (count_one k s (t + 1) (count_in s (b ∷ x.tail) (joined x.next) t x.here k 1 (omega arith) (omega arith)) c)
      (count_in s' (b ∷ x.tail) (joined (map (turned_head way) x.next)) t' (x.there ∙ ap (λ (h : List ℕ). h ++ joined (map (turned_head way) x.next)) e) k 1 (omega arith) (omega arith))

-- heads of other tags are kept
other_kept : (way : Way) (b : ℕ) (r : List ℕ) → (b ≡ 17 → ⊥) → (b ≡ 19 → ⊥) → turned_head way (b ∷ r) ≡ b ∷ r
other_kept longer b r f g = rw (ne_eqb b 17 f)
other_kept shorter b r f g = rw (ne_eqb b 19 g)

-- ---- a part here is a part there
pub record Stood (way : Way) (s s' : List ℕ) (Inner' : ℕ → Type 0) (j : ℕ) : Type 0 where
  pub end : ℕ
  pub part : Inner' end
  pub rest : Rest way s s' j end

abbrev Over : Way → List ℕ → List ℕ → Stands → Stands → Type 0
Over way s s' Inner Inner' = (i j i' : ℕ) (m : Layout) → Inner i j m → Rest way s s' i i' → Stood way s s' (λ j'. Inner' i' j' m) j

module _ (way : Way) (s s' : List ℕ) where
  place : {i j i' j' : ℕ} → i ≡ j → i' ≡ j' → Rest way s s' i i' → Rest way s s' j j'
  place {i} {j} {i'} e f x = subst (Rest way s s' j) f (subst (λ (k : ℕ). Rest way s s' k i') e x)

  scalar_over : (target : Target) {i j : ℕ} (i' : ℕ) {l : Layout} → ScalarIs target s i j l → Rest way s s' i i' → Stood way s s' (λ j'. ScalarIs target s' i' j' l) j
  scalar_over target {i} i' (a_code {b = b} h g) x =
      let y = head_at way s s' i i' b x h in
      let n : length y.tail ≡ 0 = y.whole ∙ rw (tag_code b g) in
      let e = other_kept way b y.tail (λ q. omega arith) (λ q. omega arith) in
      record {
        end = i' + 1;
        part = a_code (kept_tag way s s' i i' b y e) g;
        rest = behind way s s' i i' b y 1 1 (ap suc n) (ap length e ∙ ap suc n);
      }

  run_over : (Inner Inner' : Stands) → Over way s s' Inner Inner' → {i j : ℕ} (i' : ℕ) {ms : List Layout} → Run Inner i j ms → Rest way s s' i i'
      → Stood way s s' (λ j'. Run Inner' i' j' ms) j
  run_over Inner Inner' o i' none x = record { end = i'; part = none; rest = x }
  run_over Inner Inner' o i' (one {i = i} {j = j} {m = m} p r) x =
      let y = o i j i' m p x in
      let z = run_over Inner Inner' o y.end r y.rest in
      record { end = z.end; part = one y.part z.part; rest = z.rest }

  part_over : (w : ℕ) (target : Target) (Inner Inner' : Stands) → Over way s s' Inner Inner' → {i j : ℕ} (i' : ℕ) {l : Layout}
      → PartIs w target s Inner i j l → Rest way s s' i i' → Stood way s s' (λ j'. PartIs w target s' Inner' i' j' l) j
  part_over w target Inner Inner' o i' (a_scalar h) x =
      let y = scalar_over target i' h x in
      record { end = y.end; part = a_scalar y.part; rest = y.rest }
  part_over w target Inner Inner' o {i} i' (an_array {j = j} {n = n} {m = m} h c q a) x =
      let y = head_at way s s' i i' 16 x h in
      let e = other_kept way 16 y.tail (λ q. omega arith) (λ q. omega arith) in
      let b = behind way s s' i i' 16 y 5 5 (ap suc y.whole) (ap length e ∙ ap suc y.whole) in
      let z = o (i + 1 + 4) j (i' + 1 + 4) m q (place (omega arith) (omega arith) b) in
      record { end = z.end; part = an_array (kept_tag way s s' i i' 16 y e) (kept_count way s s' i i' 16 y e 4 n y.whole c) z.part a; rest = z.rest }
  part_over w target Inner Inner' o {i} i' (a_struct {j = j} {c = c} h r a) x =
      let y = head_at way s s' i i' (struct_tag c) x h.tag in
      let k = struct_turns way c y.tail (struct_whole c y.tail y.whole) y.fits in
      let b = behind way s s' i i' (struct_tag c) y (3 + count_bytes c) (3 + count_bytes k.to) k.old k.new in
      let z = run_over Inner Inner' o (i' + 3 + count_bytes k.to) r (place (omega arith) (omega arith) b) in
      record {
        end = z.end;
        part = a_struct {c = k.to}
            (header_over w s (struct_tag c ∷ y.tail) (joined y.next) i y.here s' (turned_head way (struct_tag c ∷ y.tail)) (joined (map (turned_head way) y.next)) i' y.there c k.to k.old k.new k.tag k.align k.packing k.count h)
            z.part
            a;
        rest = z.rest;
      }
    where
      struct_whole : (c : Counted) (r : List ℕ) → length r ≡ behind_tag (tag_of (struct_tag c)) → length r ≡ 2 + count_bytes c
      struct_whole by_one r e = e
      struct_whole by_two r e = e
  part_over w target Inner Inner' o {i} i' (a_slice {j = j} {m = m} h q a) x =
      let y = head_at way s s' i i' 18 x h in
      let e = other_kept way 18 y.tail (λ q. omega arith) (λ q. omega arith) in
      let b = behind way s s' i i' 18 y 1 1 (ap suc y.whole) (ap length e ∙ ap suc y.whole) in
      let z = o (i + 1) j (i' + 1) m q b in
      record { end = z.end; part = a_slice (kept_tag way s s' i i' 18 y e) z.part a; rest = z.rest }

  pub described_over : (w : ℕ) (target : Target) (d : ℕ) → Over way s s' (Describes w target d s) (Describes w target d s')
  unfolding Describes
  described_over w target zero i j i' m h x = scalar_over target i' h x
  described_over w target (suc d) i j i' m h x = part_over w target (Describes w target d s) (Describes w target d s') (described_over w target d) i' h x
