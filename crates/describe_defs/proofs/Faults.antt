-- A refusal in reading is the fault that reading comes to, and each such fault is the refusal. Assumes nothing.
use mathlib.Core.Path.{◌≡◌, refl, sym, ap, subst, ◌∙◌}
use mathlib.Core.Bool.{Bool, true, false, cond}
use mathlib.Core.List.{List, []}
use Prim.Native.Nat.{ℕ, zero, suc, ◌+◌, ◌*◌, ◌≤◌, ◌<◌, max}
use native.Mathlib.Nat.{max-eq_right}
use native.Mathlib.Omega.{arith}
use borrow.Author.Tests.{lt-leb, ne_eqb, ltb-true, ltb-false, leb-false, eqb-false, leb-true}
use lib.Dec.{eqb, ltb, leb}
use lib.ListN.{length, take, drop, get_or}
use Rattle.util_defs.specs.Width.{M}
use Rattle.util_defs.specs.Refusal.{Outcome, answered, refused}
use Rattle.util_defs.specs.Placed.{Placed, reached, stopped, at_place, go_on}
use Rattle.util_defs.proofs.Tables.{apart}
use Rattle.layout_defs.specs.Layout.{Info, fixed, trailing, Layout, check_for}
use Rattle.layout_defs.specs.Extend.{IsTrailing}
use Rattle.padding_defs.specs.Pad.{pad_for}
use Rattle.scalar.specs.Scalar.{Target}
use Rattle.words.specs.Bytes.{value_of}
use Rattle.compose_defs.specs.Compose.{composed, refused_at, ported, begin_for, member_step, add_members}
use Rattle.describe_defs.specs.Elements.{element_size, element_for, array_for, slice_of_for}
use Rattle.describe_defs.specs.Describe.{Counted, by_one, by_two, struct_tag, count_bytes, Part, Reader, Form, array, struct, slice, Tag, code, opens, unknown, tag_of, byte_at, count_at, power_of, power_at}
use Rattle.describe_defs.specs.Describe.{add_read, closed, struct_body, struct_at, array_at, slice_at, form_at, tagged, tagged_at, part_for, wholly, described_for, power_in}
use Rattle.describe_defs.specs.Grammar.{Stands, IsByte, Run, none, one, members, Header, Describes}
use Rattle.describe_defs.specs.Faults as F
use Rattle.describe_defs.specs.Faults.{tag_byte, UnknownTag, BadPower, no_power, power_above, power_passes, bad_align, bad_packing, no_count, ScalarsAccepted}
use Rattle.describe_defs.specs.Faults.{Comes, first, element, sliced, member, PartFault, Fault}
use Rattle.describe_defs.proofs.Steps.{not_stopped, byte_found, power_found, count_found, TagMeans, tag_means}
use Rattle.describe_defs.proofs.Elements.{element_trailing, element_sized, array_off, array_past, array_on, slice_off, slice_on}
use Rattle.describe_defs.proofs.Grammar.{Finds, added_one, run_found, describes}
use Rattle.describe_defs.proofs.Meaning.{described_past}
use Rattle.describe_defs.proofs.Accepted.{described_accepted}

-- ---- what stops, and where: what is so of a refusal is so of the same one under another name
pub stopped_as : {T : Type 0} (P : ℕ → ℕ → Type 0) {q j k i : ℕ} → ◌≡◌ {A = Placed T} (stopped q j) (stopped k i) → P q j → P k i
stopped_as {T} P e x = subst Told e x
  where
    Told : Placed T → Type 0
    Told (reached y) = Unit {0}
    Told (stopped k i) = P k i

refused_as : {T : Type 0} (P : ℕ → Type 0) {q k : ℕ} → ◌≡◌ {A = Outcome T} (refused q) (refused k) → P q → P k
refused_as {T} P e x = subst Told e x
  where
    Told : Outcome T → Type 0
    Told (answered y) = Unit {0}
    Told (refused k) = P k

data Halted {S T : Type 0} (p : Placed S) (f : S → Placed T) (k i : ℕ) : Type 0 where
  before : p ≡ stopped k i → Halted p f k i
  behind : (x : S) → p ≡ reached x → f x ≡ stopped k i → Halted p f k i

halted : {S T : Type 0} (p : Placed S) (f : S → Placed T) {k i : ℕ} → go_on p f ≡ stopped k i → Halted p f k i
halted (reached x) f e = behind x refl e
halted {S} (stopped q j) f e = before (stopped_as (λ a b. ◌≡◌ {A = Placed S} (stopped q j) (stopped a b)) e refl)

data HaltedAt {S T : Type 0} (t : ℕ) (o : Outcome S) (f : S → Placed T) (k i : ℕ) : Type 0 where
  here : (q : ℕ) → o ≡ refused q → ◌≡◌ {A = Placed T} (stopped q t) (stopped k i) → HaltedAt t o f k i
  further : (x : S) → o ≡ answered x → f x ≡ stopped k i → HaltedAt t o f k i

halted_at : {S T : Type 0} (t : ℕ) (o : Outcome S) (f : S → Placed T) {k i : ℕ} → at_place t o f ≡ stopped k i → HaltedAt t o f k i
halted_at t (answered x) f e = further x refl e
halted_at t (refused q) f e = here q refl e

-- ---- the byte, the power and the count that stop
module _ (s : List ℕ) (i : ℕ) {k j : ℕ} where
  byte_stops : byte_at s i ≡ stopped k j → (length s ≤ i) × (◌≡◌ {A = Placed ℕ} (stopped 33 i) (stopped k j))
  byte_stops e = go (ltb i (length s)) refl e
    where
      go : (b : Bool) → ltb i (length s) ≡ b → cond b (reached (get_or s i 0)) (stopped 33 i) ≡ stopped k j → (length s ≤ i) × (◌≡◌ {A = Placed ℕ} (stopped 33 i) (stopped k j))
      go true g e = absurd (not_stopped (sym e))
      go false g e = (ltb-false i (length s) g, e)

  power_stops : (w : ℕ) → i ≤ length s → power_at w s i ≡ stopped k j → BadPower w s i k j
  power_stops w h e = go (halted (byte_at s i) (power_in w i) e)
    where
      judged : (b : ℕ) → IsByte s i b → (t u : Bool) → leb b 64 ≡ t → leb (power_of b) (M w) ≡ u
          → cond t (cond u (reached (power_of b)) (stopped 43 i)) (stopped 34 i) ≡ stopped k j → BadPower w s i k j
      judged b x true true g f e = absurd (not_stopped (sym e))
      judged b x true false g f e = stopped_as (BadPower w s i) e (power_passes x (leb-true b 64 g) (leb-false (power_of b) (M w) f))
      judged b x false u g f e = stopped_as (BadPower w s i) e (power_above x (omega (arith, leb-false b 64 g)))

      go : Halted (byte_at s i) (power_in w i) k j → BadPower w s i k j
      go (before e) = let x = byte_stops e in stopped_as (BadPower w s i) x.1 (no_power (omega (arith, h, x.0)))
      go (behind b x e) = judged b (byte_found s i x) (leb b 64) (leb (power_of b) (M w)) refl refl e

  count_stops : (n : ℕ) → i ≤ length s → count_at n s i ≡ stopped k j → (length s < i + n) × (◌≡◌ {A = Placed ℕ} (stopped 33 (length s)) (stopped k j))
  count_stops n h e = go (leb (i + n) (length s)) refl e
    where
      go : (b : Bool) → leb (i + n) (length s) ≡ b → cond b (reached (value_of (take n (drop i s)))) (stopped 33 (max i (length s))) ≡ stopped k j
          → (length s < i + n) × (◌≡◌ {A = Placed ℕ} (stopped 33 (length s)) (stopped k j))
      go true g e = absurd (not_stopped (sym e))
      go false g e = (leb-false (i + n) (length s) g, ap (λ (z : ℕ). stopped 33 z) (sym (max-eq_right h)) ∙ e)

-- ---- members that stop: in one of them, or in adding it
module _ (w : ℕ) (part : Reader) (Inner : Stands) (packing t : ℕ) where
  data Broke (n k : ℕ) (l : Layout) (i q p : ℕ) : Type 0 where
    in_member : {j : ℕ} {ms : List Layout} (r : Layout) → Run Inner i j ms → length ms < n → add_members (member_step w ported packing) k l (members ms) ≡ composed r
        → part j ≡ stopped q p → Broke n k l i q p
    in_step : {j : ℕ} {ms : List Layout} (q' place : ℕ) → Run Inner i j ms → length ms ≤ n → add_members (member_step w ported packing) k l (members ms) ≡ refused_at q' place
        → ◌≡◌ {A = Placed Part} (stopped q' t) (stopped q p) → Broke n k l i q p

  broke : Finds part Inner → (n k : ℕ) (l : Layout) (i : ℕ) {q p : ℕ} → add_read w part packing t n l i ≡ stopped q p → Broke n k l i q p
  unfolding add_read add_members
  broke f zero k l i e = absurd (not_stopped (sym e))
  broke f (suc n) k l i {q} {p} e = go (halted (part i) rest e) (λ l' j. broke f n (suc k) l' j)
    where
      Next : Type 0
      Next = (l' : Layout) (j : ℕ) → add_read w part packing t n l' j ≡ stopped q p → Broke n (suc k) l' j q p

      rest : Part → Placed Part
      rest m = at_place t (member_step w ported packing l (answered m.0)) (λ l'. add_read w part packing t n l' m.1)

      longer : (m : Part) (l' : Layout) → part i ≡ reached m → member_step w ported packing l (answered m.0) ≡ answered l' → Broke n (suc k) l' m.1 q p → Broke (suc n) k l i q p
      longer m l' x y (in_member {ms = ms} r u h a z) = in_member r (one (f i m.1 m.0 x) u) (omega (arith, h)) (added_one w packing k l m.0 ms y a) z
      longer m l' x y (in_step {ms = ms} q' place u h a z) = in_step q' place (one (f i m.1 m.0 x) u) (omega (arith, h)) (added_one w packing k l m.0 ms y a) z

      step : (m : Part) → part i ≡ reached m → HaltedAt t (member_step w ported packing l (answered m.0)) (λ l'. add_read w part packing t n l' m.1) q p → Next → Broke (suc n) k l i q p
      step m x (here q' y z) g = in_step q' k (one (f i m.1 m.0 x) none) (omega arith) (rw y) z
      step m x (further l' y z) g = longer m l' x y (g l' m.1 z)

      go : Halted (part i) rest q p → Next → Broke (suc n) k l i q p
      go (before x) g = in_member l none (omega arith) refl x
      go (behind m x z) g = step m x (halted_at t (member_step w ported packing l (answered m.0)) (λ l'. add_read w part packing t n l' m.1) z) g

-- ---- an element that is refused is trailing, or the array's size passes M; and it is refused where it is so
module _ (w : ℕ) (m : Layout) (ok : check_for w m ≡ answered tt) where
  array_judged : (P : ℕ → Type 0) (n : ℕ) {k : ℕ} → array_for w m n ≡ refused k → (IsTrailing m.info → P 36) → (M w < element_size m * n → P 37) → P k
  array_judged P n {k} e f g = go m.info refl f (ltb (M w) (element_size m * n)) refl
    where
      go : (i : Info) → m.info ≡ i → (IsTrailing i → P 36) → (b : Bool) → ltb (M w) (element_size m * n) ≡ b → P k
      go (trailing v) x f b y = refused_as P (array_off w m n (sym (element_trailing w m ok x)) ∙ e) (f tt)
      go (fixed z) x f true y = let h = ltb-true (M w) (element_size m * n) y in refused_as P (array_past w m n (sym (element_sized w m ok x)) (rw x at h) ∙ e) (g h)
      go (fixed z) x f false y = let h = ltb-false (M w) (element_size m * n) y in absurd (apart (sym (array_on w m n (sym (element_sized w m ok x)) (rw x at h) ∙ e)))

  slice_judged : (P : ℕ → Type 0) {k : ℕ} → slice_of_for w m ≡ refused k → (IsTrailing m.info → P 36) → P k
  slice_judged P {k} e f = go m.info refl f
    where
      go : (i : Info) → m.info ≡ i → (IsTrailing i → P 36) → P k
      go (trailing v) x f = refused_as P (slice_off w m (sym (element_trailing w m ok x)) ∙ e) (f tt)
      go (fixed z) x f = absurd (apart (sym (slice_on w m (sym (element_sized w m ok x)) ∙ e)))

  pub trailing_refused : IsTrailing m.info → refused 36 ≡ element_for w m
  trailing_refused h = go m.info refl h
    where
      go : (i : Info) → m.info ≡ i → IsTrailing i → refused 36 ≡ element_for w m
      go (trailing v) x u = element_trailing w m ok x
      go (fixed z) x u = absurd u

  pub array_passes_lem : (n : ℕ) → M w < element_size m * n → refused 37 ≡ array_for w m n
  array_passes_lem n h = go m.info refl
    where
      go : (i : Info) → m.info ≡ i → refused 37 ≡ array_for w m n
      go (trailing v) x = let z : M w < 0 * n = rw x at h in absurd (omega (arith, z))
      go (fixed z) x = array_past w m n (sym (element_sized w m ok x)) (rw x at h)

-- ---- a byte that is no tag
not_tag : {b : ℕ} → TagMeans b unknown → UnknownTag b
not_tag {b} m = (m.0, go)
  where
    go : (f : Form) → b ≡ tag_byte f → ⊥
    go array e = m.1.0 e
    go (struct by_one) e = m.1.1.0 e
    go slice e = m.1.1.1.0 e
    go (struct by_two) e = m.1.1.1.1 e

pub tag_unknown : (b : ℕ) → UnknownTag b → tag_of b ≡ unknown
tag_unknown b h = rw (lt-leb b 8 h.0, ne_eqb b 16 (h.1 array), ne_eqb b 17 (h.1 (struct by_one)), ne_eqb b 18 (h.1 slice), ne_eqb b 19 (h.1 (struct by_two)))

-- ---- a refusal is the fault that reading comes to
module _ (w : ℕ) (target : Target) (good : ScalarsAccepted w target) (s : List ℕ) where
  module _ (depth start : ℕ) where
    -- what is come to, and the refusal there
    abbrev To : ℕ → ℕ → Type 0
    To = Comes w target s depth start

    abbrev Refusal : ℕ → ℕ → Type 0
    Refusal = PartFault w target s depth start

    by_tag : {d t k i : ℕ} → To d t → (inside : Form → Placed Part) → ((f : Form) → IsByte s t (tag_byte f) → inside f ≡ stopped k i → Refusal k i)
        → tagged_at target s t inside ≡ stopped k i → Refusal k i
    by_tag {d} {t} {k} {i} c inside q e = go (halted (byte_at s t) (λ b. tagged target t b inside (tag_of b)) e)
      where
        on : (b : ℕ) → IsByte s t b → (g : Tag) → TagMeans b g → tagged target t b inside g ≡ stopped k i → Refusal k i
        on b h code m e = absurd (not_stopped (sym e))
        on b h (opens array) m e = q array (subst (IsByte s t) m h) e
        on b h (opens (struct n)) m e = q (struct n) (subst (IsByte s t) m h) e
        on b h (opens slice) m e = q slice (subst (IsByte s t) m h) e
        on b h unknown m e = stopped_as (Refusal) e (F.unknown_tag c h (not_tag m))

        go : Halted (byte_at s t) (λ b. tagged target t b inside (tag_of b)) k i → Refusal k i
        go (before x) = let y = byte_stops s t x in stopped_as (Refusal) y.1 (F.no_tag c (omega (arith, y.0)))
        go (behind b x y) = on b (byte_found s t x) (tag_of b) (tag_means b) y

    -- a refusal of the level below
    abbrev Below : ℕ → Type 0
    Below d = (t k i : ℕ) → To d t → part_for w target d s t ≡ stopped k i → Refusal k i

    module _ (d : ℕ) where
      abbrev part : Reader
      part = part_for w target d s

      module _ (below : Below d) {t k i : ℕ} (c : To (suc d) t) where
        array_fault : IsByte s t 16 → array_at w part s t ≡ stopped k i → Refusal k i
        unfolding array_at
        array_fault h e = counted (halted (count_at 4 s (t + 1)) (λ n. go_on (part (t + 1 + 4)) (judge n)) e)
          where
            judge : ℕ → Part → Placed Part
            judge n x = at_place t (array_for w x.0 n) (λ l. reached (l, x.1))

            judged : (n : ℕ) (x : Part) → count_at 4 s (t + 1) ≡ reached n → part (t + 1 + 4) ≡ reached x → HaltedAt {T = Part} t (array_for w x.0 n) (λ l. reached (l, x.1)) k i → Refusal k i
            judged n x y z (further l a b) = absurd (not_stopped (sym b))
            judged n x y z (here q a b) =
                let v = describes w target s d (t + 1 + 4) x.1 x.0 z in
                let o : F.ArrayOf w target s d t n x.0 = record { tag = h; count = count_found 4 s (t + 1) y; next = x.1; element = v } in
                stopped_as (Refusal) b
                (array_judged w x.0 (described_accepted w target good s d (t + 1 + 4) x.1 x.0 v) (λ q. Refusal q t) n a
                (λ r. F.array_of_trailing c o r)
                (λ r. F.array_passes c o r))

            read : (n : ℕ) → count_at 4 s (t + 1) ≡ reached n → Halted (part (t + 1 + 4)) (judge n) k i → Refusal k i
            read n y (before z) = below (t + 1 + 4) k i (element c h (count_found 4 s (t + 1) y)) z
            read n y (behind x z e) = judged n x y z (halted_at {T = Part} t (array_for w x.0 n) (λ l. reached (l, x.1)) e)

            counted : Halted (count_at 4 s (t + 1)) (λ n. go_on (part (t + 1 + 4)) (judge n)) k i → Refusal k i
            counted (before y) = let z = count_stops s (t + 1) 4 (omega (arith, h.within)) y in stopped_as (Refusal) z.1 (F.count_cut c h z.0)
            counted (behind n y e) = read n y (halted (part (t + 1 + 4)) (judge n) e)

        slice_fault : IsByte s t 18 → slice_at w part t ≡ stopped k i → Refusal k i
        unfolding slice_at
        slice_fault h e = read (halted (part (t + 1)) judge e)
          where
            judge : Part → Placed Part
            judge x = at_place t (slice_of_for w x.0) (λ l. reached (l, x.1))

            judged : (x : Part) → part (t + 1) ≡ reached x → HaltedAt {T = Part} t (slice_of_for w x.0) (λ l. reached (l, x.1)) k i → Refusal k i
            judged x z (further l a b) = absurd (not_stopped (sym b))
            judged x z (here q a b) =
                let v = describes w target s d (t + 1) x.1 x.0 z in
                stopped_as (Refusal) b
                (slice_judged w x.0 (described_accepted w target good s d (t + 1) x.1 x.0 v) (λ q. Refusal q t) a
                (λ r. F.slice_of_trailing c (record { tag = h; next = x.1; element = v }) r))

            read : Halted (part (t + 1)) judge k i → Refusal k i
            read (before z) = below (t + 1) k i (sliced c h) z
            read (behind x z e) = judged x z (halted_at {T = Part} t (slice_of_for w x.0) (λ l. reached (l, x.1)) e)

        body_fault : (o : Counted) {align packing n : ℕ} → Header w s t o align packing n → struct_body w part t (t + 3 + count_bytes o) align packing n ≡ stopped k i → Refusal k i
        body_fault o {align} {packing} {n} h e = begun (halted_at t (begin_for w ported align packing) (λ l. go_on (add_read w part packing t n l (t + 3 + count_bytes o)) (closed w t)) e)
          where
            Inner : Stands
            Inner = Describes w target d s

            members_fault : (l : Layout) → begin_for w ported align packing ≡ answered l → Broke w part Inner packing t n 0 l (t + 3 + count_bytes o) k i → Refusal k i
            members_fault l b (in_member {j = j} {ms = ms} r u q a z) = below j k i (member {l = r} c (record { header = h; run = u }) (omega (arith, q)) (rw (b, a))) z
            members_fault l b (in_step {ms = ms} q' place u q a z) = stopped_as (Refusal) z (F.of_members {place = place} c (record { header = h; run = u }) q (rw (b, a)))

            closed_fault : (l : Layout) (x : Part) → begin_for w ported align packing ≡ answered l → add_read w part packing t n l (t + 3 + count_bytes o) ≡ reached x
                → HaltedAt {T = Part} t (pad_for w x.0) (λ l. reached (l, x.1)) k i → Refusal k i
            closed_fault l x b y (further m a z) = absurd (not_stopped (sym z))
            closed_fault l x b y (here q a z) =
                let r = run_found w part Inner packing t (describes w target s d) n 0 (t + 3 + count_bytes o) x.1 l x.0 y in
                stopped_as (Refusal) z
                (F.of_struct {place = length (members r.ms)} c (record { header = subst (Header w s t o align packing) (sym r.count) h; run = r.run }) (rw (b, r.adds, a)))

            added : (l : Layout) → begin_for w ported align packing ≡ answered l → Halted (add_read w part packing t n l (t + 3 + count_bytes o)) (closed w t) k i → Refusal k i
            added l b (before y) = members_fault l b (broke w part Inner packing t (describes w target s d) n 0 l (t + 3 + count_bytes o) y)
            added l b (behind x y e) = closed_fault l x b y (halted_at {T = Part} t (pad_for w x.0) (λ l. reached (l, x.1)) e)

            begun : HaltedAt t (begin_for w ported align packing) (λ l. go_on (add_read w part packing t n l (t + 3 + count_bytes o)) (closed w t)) k i → Refusal k i
            begun (here q b z) = stopped_as (Refusal) z (F.of_members {place = 0} {ms = []} c (record { header = h; run = none }) (omega arith) (rw b))
            begun (further l b e) = added l b (halted (add_read w part packing t n l (t + 3 + count_bytes o)) (closed w t) e)

        struct_fault : (o : Counted) → IsByte s t (struct_tag o) → struct_at w part s t o ≡ stopped k i → Refusal k i
        unfolding struct_at
        struct_fault o h e = aligned (halted (power_at w s (t + 1)) (λ align. go_on (power_at w s (t + 2)) (λ packing. go_on (count_at (count_bytes o) s (t + 3)) (λ n. struct_body w part t (t + 3 + count_bytes o) align packing n))) e)
          where
            counted : (a p : ℕ) → power_at w s (t + 1) ≡ reached a → power_at w s (t + 2) ≡ reached p → Halted (count_at (count_bytes o) s (t + 3)) (λ n. struct_body w part t (t + 3 + count_bytes o) a p n) k i → Refusal k i
            counted a p x y (before z) =
                let u = power_found w s (t + 2) y in
                let v = count_stops s (t + 3) (count_bytes o) (omega (arith, u.at.within)) z in
                stopped_as (Refusal) v.1 (F.in_header o c h (no_count (power_found w s (t + 1) x) u v.0))
            counted a p x y (behind n z e) =
                body_fault o (record { tag = h; aligned = power_found w s (t + 1) x; packed = power_found w s (t + 2) y; count = count_found (count_bytes o) s (t + 3) z }) e

            packed : (a : ℕ) → power_at w s (t + 1) ≡ reached a → Halted (power_at w s (t + 2)) (λ packing. go_on (count_at (count_bytes o) s (t + 3)) (λ n. struct_body w part t (t + 3 + count_bytes o) a packing n)) k i → Refusal k i
            packed a x (before y) = let u = power_found w s (t + 1) x in F.in_header o c h (bad_packing u (power_stops s (t + 2) w (omega (arith, u.at.within)) y))
            packed a x (behind p y e) = counted a p x y (halted (count_at (count_bytes o) s (t + 3)) (λ n. struct_body w part t (t + 3 + count_bytes o) a p n) e)

            aligned : Halted (power_at w s (t + 1)) (λ align. go_on (power_at w s (t + 2)) (λ packing. go_on (count_at (count_bytes o) s (t + 3)) (λ n. struct_body w part t (t + 3 + count_bytes o) align packing n))) k i → Refusal k i
            aligned (before x) = F.in_header o c h (bad_align (power_stops s (t + 1) w (omega (arith, h.within)) x))
            aligned (behind a x e) = packed a x (halted (power_at w s (t + 2)) (λ packing. go_on (count_at (count_bytes o) s (t + 3)) (λ n. struct_body w part t (t + 3 + count_bytes o) a packing n)) e)

        form_fault : (f : Form) → IsByte s t (tag_byte f) → form_at w part s t f ≡ stopped k i → Refusal k i
        form_fault array h e = array_fault h e
        form_fault (struct o) h e = struct_fault o h e
        form_fault slice h e = slice_fault h e

    part_fault : (d : ℕ) → Below d
    unfolding part_for
    part_fault zero t k i c e = by_tag c (λ f. stopped 35 t) (λ f h e. stopped_as (Refusal) e (F.too_deep c f h)) e
    part_fault (suc d) t k i c e = by_tag c (form_at w (part_for w target d s) s t) (form_fault d (part_fault d) c) e

  -- of the part that is read
  pub part_stops : (depth start : ℕ) {k i : ℕ} → part_for w target depth s start ≡ stopped k i → PartFault w target s depth start k i
  part_stops depth start {k} {i} e = part_fault depth start depth start k i first e

  pub fault : {k i : ℕ} → described_for w target s ≡ stopped k i → Fault w target s k i
  unfolding described_for
  fault {k} {i} e = go (halted (part_for w target 16 s 0) (wholly s) e)
    where
      over : (x : Part) → part_for w target 16 s 0 ≡ reached x → (b : Bool) → eqb x.1 (length s) ≡ b → cond b (reached x.0) (stopped 38 x.1) ≡ stopped k i → Fault w target s k i
      over x y true g e = absurd (not_stopped (sym e))
      over x y false g e =
          let u = describes w target s 16 0 x.1 x.0 y in
          let v = described_past w target s 16 0 x.1 x.0 u in
          let z = eqb-false x.1 (length s) g in
          stopped_as (Fault w target s) e (F.left_over x.0 u (let y = below v.1 z in omega (arith, y)))
        where
          below : {a b : ℕ} → a ≤ b → (a ≡ b → ⊥) → a < b
          below {a} {b} h n = omega (arith, h, n)

      go : Halted (part_for w target 16 s 0) (wholly s) k i → Fault w target s k i
      go (before x) = F.in_part (part_stops 16 0 x)
      go (behind x y e) = over x y (eqb x.1 (length s)) refl e
