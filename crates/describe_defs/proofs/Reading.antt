-- Each fault that reading comes to is the refusal; so what reading means is met by nothing else. Assumes nothing.
use mathlib.Core.Path.{◌≡◌, sym, ap, ◌∙◌}
use mathlib.Core.List.{List}
use Prim.Native.Nat.{ℕ, zero, suc, ◌+◌, ◌-◌, ◌≤◌, ◌<◌}
use native.Mathlib.Nat.{max-eq_right}
use native.Mathlib.Omega.{arith}
use borrow.Author.Tests.{le-ltb, lt-leb, ne_eqb, le-leb}
use lib.ListN.{length}
use Rattle.util_defs.specs.Width.{M}
use Rattle.util_defs.specs.Refusal.{Outcome, answered, refused}
use Rattle.util_defs.specs.Placed.{Placed, reached, stopped, at_place, go_on}
use Rattle.layout_defs.specs.Layout.{Layout}
use Rattle.scalar.specs.Scalar.{Target}
use Rattle.compose_defs.specs.Compose.{composed, refused_at, and_then, ported, begin_for, member_step, add_members, compose_members}
use Rattle.compose_defs.proofs.Modifiers.{not_composed}
use Rattle.describe_defs.specs.Elements.{array_for, slice_of_for}
use Rattle.describe_defs.specs.Describe.{Counted, count_bytes, Part, Reader, Form, array, struct, slice, byte_at, power_at, power_of}
use Rattle.describe_defs.specs.Describe.{add_read, closed, struct_body, struct_at, array_at, slice_at, form_at, part_for, described_for}
use Rattle.describe_defs.specs.Grammar.{Stands, IsByte, Run, none, one, members, Describes}
use Rattle.describe_defs.specs.Faults as F
use Rattle.describe_defs.specs.Faults.{tag_byte, UnknownTag, BadPower, no_power, power_above, power_passes, BadHeader, bad_align, bad_packing, no_count, ScalarsAccepted}
use Rattle.describe_defs.specs.Faults.{Comes, first, element, sliced, member, PartFault, PartMeans, Fault, ReadMeans}
use Rattle.describe_defs.specs.ByHand.{by_hand}
use Rattle.describe_defs.proofs.Steps.{not_stopped, byte_is, power_is, count_is}
use Rattle.describe_defs.proofs.Elements.{array_off, slice_off}
use Rattle.describe_defs.proofs.Grammar.{Gives, tagged_array, tagged_struct, tagged_slice, struct_is, reads, describes}
use Rattle.describe_defs.proofs.Meaning.{accepted, accepts, as_by_hand}
use Rattle.describe_defs.proofs.Accepted.{described_accepted}
use Rattle.describe_defs.proofs.Faults.{trailing_refused, array_passes_lem, tag_unknown, part_stops, fault}

-- ---- a byte and a power that are not there
byte_missing : (s : List ℕ) (i : ℕ) → length s ≤ i → byte_at s i ≡ stopped 33 i
byte_missing s i h = rw (le-ltb i (length s) h)

power_missing : (w : ℕ) (s : List ℕ) (i : ℕ) {k j : ℕ} → BadPower w s i k j → power_at w s i ≡ stopped k j
power_missing w s i (no_power e) = rw (byte_missing s i (omega (arith, e)))
power_missing w s i (power_above {b = b} h g) = rw (byte_is s i h, lt-leb b 64 g)
power_missing w s i (power_passes {b = b} h m g) = rw (byte_is s i h, le-leb b 64 m, lt-leb (power_of b) (M w) g)

-- ---- members that are added, and what comes then
module _ (w : ℕ) (part : Reader) (Inner : Stands) (packing t : ℕ) (g : Gives part Inner) where
  add_on : (k : ℕ) (l : Layout) {i j : ℕ} {ms : List Layout} {r : Layout} → Run Inner i j ms → add_members (member_step w ported packing) k l (members ms) ≡ composed r
      → (n m : ℕ) → n ≡ length ms + m → add_read w part packing t n l i ≡ add_read w part packing t m r j
  unfolding add_read add_members
  add_on k l {r = r} (none {i = i}) e n m q = let x : n ≡ m = omega (arith, q) in let y : l ≡ r = cc in ap (λ (c : ℕ). add_read w part packing t c l i) x ∙ ap (λ (c : Layout). add_read w part packing t m c i) y
  add_on k l (one p u) e zero m q = absurd (omega (arith, q))
  add_on k l {r = r} (one {i = i} {j = j} {k = z} {m = a} {ms = ms} p u) e (suc n) m q =
      rw (g i j a p) (go (member_step w ported packing l (answered a)) e (λ l' f. add_on (suc k) l' u f n m (omega (arith, q))))
    where
      go : (o : Outcome Layout) → and_then o k (λ l'. add_members (member_step w ported packing) (suc k) l' (members ms)) ≡ composed r
          → ((l' : Layout) → add_members (member_step w ported packing) (suc k) l' (members ms) ≡ composed r → add_read w part packing t n l' j ≡ add_read w part packing t m r z)
          → at_place t o (λ l'. add_read w part packing t n l' j) ≡ add_read w part packing t m r z
      go (answered l') e f = f l' e
      go (refused q) e f = absurd (not_composed e)

  add_off : (k : ℕ) (l : Layout) {i j : ℕ} {ms : List Layout} {q place : ℕ} → Run Inner i j ms → add_members (member_step w ported packing) k l (members ms) ≡ refused_at q place
      → (n : ℕ) → length ms ≤ n → add_read w part packing t n l i ≡ stopped q t
  unfolding add_read add_members
  add_off k l none e n h = absurd (not_composed (sym e))
  add_off k l (one p u) e zero h = absurd (omega (arith, h))
  add_off k l {q = q} {place = place} (one {i = i} {j = j} {m = a} {ms = ms} p u) e (suc n) h =
      rw (g i j a p) (go (member_step w ported packing l (answered a)) e (λ l' f. add_off (suc k) l' u f n (omega (arith, h))))
    where
      go : (o : Outcome Layout) → and_then o k (λ l'. add_members (member_step w ported packing) (suc k) l' (members ms)) ≡ refused_at q place
          → ((l' : Layout) → add_members (member_step w ported packing) (suc k) l' (members ms) ≡ refused_at q place → add_read w part packing t n l' j ≡ stopped q t)
          → at_place t o (λ l'. add_read w part packing t n l' j) ≡ stopped q t
      go (answered l') e f = f l' e
      go (refused q') e f = let x : q' ≡ q = cc in ap (λ (c : ℕ). stopped c t) x

  -- a struct stops where one of its members does, once those before it are added, and where adding them is refused
  body_stops : (f align : ℕ) {j n k i : ℕ} {ms : List Layout} {l : Layout} → Run Inner f j ms → length ms < n → compose_members w ported align packing (members ms) ≡ composed l
      → part j ≡ stopped k i → struct_body w part t f align packing n ≡ stopped k i
  unfolding add_read
  body_stops f align {j} {n} {k} {i} {ms} {l} u h e x = go (begin_for w ported align packing) e (left n h)
    where
      Left : Type 0
      Left = (m : ℕ) × (n ≡ length ms + suc m)

      left : (n : ℕ) → length ms < n → (m : ℕ) × (n ≡ length ms + suc m)
      left n h = (n - suc (length ms), omega (arith, h))

      go : (o : Outcome Layout) → and_then o 0 (λ l. add_members (member_step w ported packing) 0 l (members ms)) ≡ composed l → Left
          → at_place t o (λ l. go_on (add_read w part packing t n l f) (closed w t)) ≡ stopped k i
      go (answered b) e (m, q) = rw (add_on 0 b u e n (suc m) q, x)
      go (refused q) e z = absurd (not_composed e)

  body_refused : (f align : ℕ) {j n k place : ℕ} {ms : List Layout} → Run Inner f j ms → length ms ≤ n → compose_members w ported align packing (members ms) ≡ refused_at k place
      → struct_body w part t f align packing n ≡ stopped k t
  body_refused f align {j} {n} {k} {place} {ms} u h e = go (begin_for w ported align packing) e
    where
      go : (o : Outcome Layout) → and_then o 0 (λ l. add_members (member_step w ported packing) 0 l (members ms)) ≡ refused_at k place
          → at_place t o (λ l. go_on (add_read w part packing t n l f) (closed w t)) ≡ stopped k t
      go (answered b) e = rw (add_off 0 b u e n h)
      go (refused q) e = let x : q ≡ k = cc in ap (λ (c : ℕ). stopped c t) x

-- ---- a part stops where one does that reading comes to
module _ (w : ℕ) (target : Target) (s : List ℕ) where
  stops : {depth start d t : ℕ} (k i : ℕ) → Comes w target s depth start d t → part_for w target d s t ≡ stopped k i → part_for w target depth s start ≡ stopped k i
  unfolding part_for array_at slice_at
  stops k i first e = e
  stops k i (element {d = d} {t = t} c h p) e = stops k i c (tagged_array w target s t (form_at w (part_for w target d s) s t) h ∙ rw (count_is 4 s (t + 1) p, e))
  stops k i (sliced {d = d} {t = t} c h) e = stops k i c (tagged_slice w target s t (form_at w (part_for w target d s) s t) h ∙ rw e)
  stops k i (member {d = d} {t = t} {align = a} {packing = p} {c = o} c m h f) e =
      stops k i c
      (tagged_struct w target s t (form_at w (part_for w target d s) s t) o m.header.tag ∙ struct_is w target s t (part_for w target d s) m.header
      ∙ body_stops w (part_for w target d s) (Describes w target d s) p t (reads w target s d) (t + 3 + count_bytes o) a m.run h f e)

  -- a part by its tag, whatever may be open
  no_tag_lem : (d t : ℕ) → length s ≤ t → part_for w target d s t ≡ stopped 33 t
  unfolding part_for
  no_tag_lem zero t e = rw (byte_missing s t e)
  no_tag_lem (suc d) t e = rw (byte_missing s t e)

  unknown_tag_lem : (d t : ℕ) {b : ℕ} → IsByte s t b → UnknownTag b → part_for w target d s t ≡ stopped 34 t
  unfolding part_for
  unknown_tag_lem zero t {b} h u = rw (byte_is s t h, tag_unknown b u)
  unknown_tag_lem (suc d) t {b} h u = rw (byte_is s t h, tag_unknown b u)

  too_deep_lem : (t : ℕ) (f : Form) → IsByte s t (tag_byte f) → part_for w target zero s t ≡ stopped 35 t
  unfolding part_for
  too_deep_lem t array h = tagged_array w target s t (λ f. stopped 35 t) h
  too_deep_lem t (struct o) h = tagged_struct w target s t (λ f. stopped 35 t) o h
  too_deep_lem t slice h = tagged_slice w target s t (λ f. stopped 35 t) h

  header_stops : (part : Reader) (t : ℕ) (o : Counted) {k i : ℕ} → t < length s → BadHeader w s t o k i → struct_at w part s t o ≡ stopped k i
  unfolding struct_at
  header_stops part t o z (bad_align x) = rw (power_missing w s (t + 1) x)
  header_stops part t o z (bad_packing h x) = rw (power_is w s (t + 1) h, power_missing w s (t + 2) x)
  header_stops part t o z (no_count h g e) =
      let x : t + 3 ≤ length s = omega (arith, g.at.within) in
      rw (power_is w s (t + 1) h, power_is w s (t + 2) g, lt-leb (t + 3 + count_bytes o) (length s) e, max-eq_right x)

  count_cut_lem : (part : Reader) (t : ℕ) → t < length s → length s < t + 1 + 4 → array_at w part s t ≡ stopped 33 (length s)
  unfolding array_at
  count_cut_lem part t h g = let x : t + 1 ≤ length s = omega (arith, h) in rw (lt-leb (t + 1 + 4) (length s) g, max-eq_right x)

  array_stops : (d t n : ℕ) {m : Layout} {k : ℕ} (x : F.ArrayOf w target s d t n m) → array_for w m n ≡ refused k
      → part_for w target (suc d) s t ≡ stopped k t
  unfolding part_for array_at
  array_stops d t n {m} x e =
      tagged_array w target s t (form_at w (part_for w target d s) s t) x.tag
      ∙ rw (count_is 4 s (t + 1) x.count, reads w target s d (t + 1 + 4) x.next m x.element, e)

  slice_stops : (d t : ℕ) {m : Layout} {k : ℕ} (x : F.SliceOf w target s d t m) → slice_of_for w m ≡ refused k → part_for w target (suc d) s t ≡ stopped k t
  unfolding part_for slice_at
  slice_stops d t {m} x e =
      tagged_slice w target s t (form_at w (part_for w target d s) s t) x.tag ∙ rw (reads w target s d (t + 1) x.next m x.element, e)

  part_fault_stops : ScalarsAccepted w target → {depth start k i : ℕ} → PartFault w target s depth start k i → part_for w target depth s start ≡ stopped k i
  unfolding part_for
  part_fault_stops good (F.no_tag {d = d} {t = t} c e) = stops 33 t c (no_tag_lem d t e)
  part_fault_stops good (F.unknown_tag {d = d} {t = t} c h u) = stops 34 t c (unknown_tag_lem d t h u)
  part_fault_stops good (F.too_deep {t = t} c f h) = stops 35 t c (too_deep_lem t f h)
  part_fault_stops good (F.count_cut {d = d} {t = t} c h g) =
      stops 33 (length s) c (tagged_array w target s t (form_at w (part_for w target d s) s t) h ∙ count_cut_lem (part_for w target d s) t h.within g)
  part_fault_stops good (F.in_header {d = d} {t = t} {k = k} {i = i} o c h x) =
      stops k i c (tagged_struct w target s t (form_at w (part_for w target d s) s t) o h ∙ header_stops (part_for w target d s) t o h.within x)
  part_fault_stops good (F.array_of_trailing {d = d} {t = t} {n = n} {m = m} c x h) =
      let ok = described_accepted w target good s d (t + 1 + 4) x.next m x.element in
      stops 36 t c (array_stops d t n x (sym (array_off w m n (sym (trailing_refused w m ok h)))))
  part_fault_stops good (F.slice_of_trailing {d = d} {t = t} {m = m} c x h) =
      let ok = described_accepted w target good s d (t + 1) x.next m x.element in
      stops 36 t c (slice_stops d t x (sym (slice_off w m (sym (trailing_refused w m ok h)))))
  part_fault_stops good (F.array_passes {d = d} {t = t} {n = n} {m = m} c x h) =
      let ok = described_accepted w target good s d (t + 1 + 4) x.next m x.element in
      stops 37 t c (array_stops d t n x (sym (array_passes_lem w m ok n h)))
  part_fault_stops good (F.of_members {d = d} {t = t} {align = a} {packing = p} {k = k} {c = o} c m h e) =
      stops k t c
      (tagged_struct w target s t (form_at w (part_for w target d s) s t) o m.header.tag ∙ struct_is w target s t (part_for w target d s) m.header
      ∙ body_refused w (part_for w target d s) (Describes w target d s) p t (reads w target s d) (t + 3 + count_bytes o) a m.run h e)
  part_fault_stops good (F.of_struct {d = d} {t = t} {align = a} {packing = p} {j = j} {k = k} {c = o} {ms = ms} c m e) =
      stops k t c (as_by_hand w target s d t j a p o ms m.header m.run ∙ ap (by_hand t j) e)

  fault_stops : ScalarsAccepted w target → {k i : ℕ} → Fault w target s k i → described_for w target s ≡ stopped k i
  unfolding described_for
  fault_stops good (F.in_part x) = rw (part_fault_stops good x)
  fault_stops good (F.left_over {i = i} l h g) = rw (reads w target s 16 0 i l h, ne_eqb i (length s) (λ z. omega (arith, z, g)))

  -- ---- what reading means, and that nothing else meets it
  pub part_means : ScalarsAccepted w target → (d t : ℕ) (r : Placed Part) → part_for w target d s t ≡ r → PartMeans w target s d t r
  part_means good d t (reached x) e = describes w target s d t x.1 x.0 e
  part_means good d t (stopped k i) e = ((λ j l h. not_stopped (sym e ∙ reads w target s d t j l h)), part_stops w target good s d t e)

  pub one_part_reading : ScalarsAccepted w target → (d t : ℕ) (r : Placed Part) → PartMeans w target s d t r → part_for w target d s t ≡ r
  one_part_reading good d t (reached x) h = reads w target s d t x.1 x.0 h
  one_part_reading good d t (stopped k i) h = part_fault_stops good h.1

  pub read_means : ScalarsAccepted w target → (r : Placed Layout) → described_for w target s ≡ r → ReadMeans w target s r
  read_means good (reached l) e = accepts w target s e
  read_means good (stopped k i) e = ((λ l h. not_stopped (sym e ∙ accepted w target s h)), fault w target good s e)

  pub one_reading : ScalarsAccepted w target → (r : Placed Layout) → ReadMeans w target s r → described_for w target s ≡ r
  one_reading good (reached l) h = accepted w target s h
  one_reading good (stopped k i) h = fault_stops good h.1
