-- The reader accepts exactly the descriptions, and gives their layouts, which are those of compositions by hand. Assumes nothing.
use mathlib.Core.Path.{◌≡◌, refl, sym, ap, subst, ◌∙◌}
use mathlib.Core.List.{List, [], ◌∷◌}
use Prim.Native.Nat.{ℕ, zero, suc, ◌+◌, ◌≤◌}
use lib.ListN.{length}
use Rattle.util_defs.specs.Refusal.{Outcome, answered, refused}
use Rattle.util_defs.specs.Placed.{Placed, reached, stopped, at_place, go_on}
use Rattle.layout_defs.specs.Layout.{Layout}
use Rattle.padding_defs.specs.Pad.{pad_for}
use Rattle.scalar.specs.Scalar.{Target, scalar_layout}
use Rattle.compose_defs.specs.Compose.{Composed, composed, refused_at, and_then, bind, ported, begin_for, member_step, add_members, compose_struct}
use Rattle.describe_defs.specs.Elements.{array_for, slice_of_for}
use Rattle.describe_defs.specs.Describe.{Counted, by_one, by_two, struct_tag, count_bytes, Part, Reader, Form, array, struct, slice, Tag, code, opens, unknown, tag_of, byte_at, count_at, power_at}
use Rattle.describe_defs.specs.Describe.{add_read, closed, struct_body, struct_at, array_at, slice_at, form_at, tagged, tagged_at, part_for}
use Rattle.describe_defs.specs.Grammar.{Stands, IsByte, IsCount, Run, none, one, members, Header, ScalarIs, PartIs, Describes}
use Rattle.describe_defs.specs.Faults.{tag_byte}
use Rattle.describe_defs.specs.Grammar.{a_code, a_scalar, an_array, a_struct, a_slice}
use Rattle.describe_defs.specs.ByHand.{by_hand}
use Rattle.describe_defs.proofs.Steps.{not_stopped, reached_one, went, went_at, byte_found, byte_is, power_found, power_is, count_found, count_is, TagMeans, tag_means, tag_code}

-- a reader gives what the grammar says of the level below, and finds nothing else
abbrev pub Gives : Reader → Stands → Type 0
Gives part Inner = (i j : ℕ) (m : Layout) → Inner i j m → part i ≡ reached (m, j)

abbrev pub Finds : Reader → Stands → Type 0
Finds part Inner = (i j : ℕ) (m : Layout) → part i ≡ reached (m, j) → Inner i j m

-- members that were read and added one by one
pub record Added (w : ℕ) (Inner : Stands) (packing n k i j : ℕ) (l r : Layout) : Type 0 where
  pub ms : List Layout
  pub run : Run Inner i j ms
  pub count : length ms ≡ n
  pub adds : add_members (member_step w ported packing) k l (members ms) ≡ composed r

-- a composition by its steps
pub added_one : (w packing k : ℕ) (l m : Layout) (ms : List Layout) {l' : Layout} {c : Composed} → member_step w ported packing l (answered m) ≡ answered l'
    → add_members (member_step w ported packing) (suc k) l' (members ms) ≡ c → add_members (member_step w ported packing) k l (members (m ∷ ms)) ≡ c
unfolding add_members
added_one w packing k l m ms e f = rw e f

struct_made : (w align packing : ℕ) (ms : List Layout) {l m r : Layout} → begin_for w ported align packing ≡ answered l
    → add_members (member_step w ported packing) 0 l (members ms) ≡ composed m → pad_for w m ≡ answered r → compose_struct w ported align packing (members ms) ≡ composed r
struct_made w align packing ms e f g = rw (e, f, g)

module _ (w : ℕ) (part : Reader) (Inner : Stands) (packing t : ℕ) where
  -- members that read give what their composition does, its refusal at the tag
  pub run_by_hand : Gives part Inner → (k : ℕ) (l : Layout) {i j : ℕ} {ms : List Layout} → Run Inner i j ms
      → add_read w part packing t (length ms) l i ≡ by_hand t j (add_members (member_step w ported packing) k l (members ms))
  unfolding add_read add_members
  run_by_hand g k l none = refl
  run_by_hand g k l (one {i = i} {j = j} {k = e} {m = m} {ms = ms} p r) = rw (g i j m p) (go (member_step w ported packing l (answered m)) (λ l'. run_by_hand g (suc k) l' r))
    where
      go : (o : Outcome Layout) → ((l' : Layout) → add_read w part packing t (length ms) l' j ≡ by_hand t e (add_members (member_step w ported packing) (suc k) l' (members ms)))
          → at_place t o (λ l'. add_read w part packing t (length ms) l' j) ≡ by_hand t e (and_then o k (λ l'. add_members (member_step w ported packing) (suc k) l' (members ms)))
      go (answered l') h = h l'
      go (refused q) h = refl

  pub run_found : Finds part Inner → (n k i j : ℕ) (l r : Layout) → add_read w part packing t n l i ≡ reached (r, j) → Added w Inner packing n k i j l r
  unfolding add_read add_members
  run_found f zero k i j l r e =
      let x : ◌≡◌ {A = Part} (l, i) (r, j) = reached_one e in
      subst (λ (y : Part). Added w Inner packing 0 k i y.1 l y.0) x (record { ms = []; run = none; count = refl; adds = refl })
  run_found f (suc n) k i j l r e =
      let x = went (part i) (λ m. at_place t (member_step w ported packing l (answered m.0)) (λ l'. add_read w part packing t n l' m.1)) e in
      let y = went_at t (member_step w ported packing l (answered x.to.0)) (λ l'. add_read w part packing t n l' x.to.1) x.then in
      let z = run_found f n (suc k) x.to.1 j y.to r y.then in
      record {
        ms = x.to.0 ∷ z.ms;
        run = one (f i x.to.1 x.to.0 x.first) z.run;
        count = ap suc z.count;
        adds = added_one w packing k l x.to.0 z.ms y.first z.adds;
      }

  -- a struct whose members read is their composition
  pub body_by_hand : Gives part Inner → (align : ℕ) {i j : ℕ} {ms : List Layout} → Run Inner i j ms
      → struct_body w part t i align packing (length ms) ≡ by_hand t j (compose_struct w ported align packing (members ms))
  body_by_hand g align {i} {j} {ms} r = begun (begin_for w ported align packing)
    where
      closes : (l : Layout) (o : Outcome Layout) → at_place t o (λ l'. reached (l', j)) ≡ by_hand t j (and_then o (length (members ms)) composed)
      closes l (answered l') = refl
      closes l (refused k) = refl

      padded : (c : Composed) → go_on (by_hand t j c) (closed w t) ≡ by_hand t j (bind c (λ l. and_then (pad_for w l) (length (members ms)) composed))
      padded (composed l) = closes l (pad_for w l)
      padded (refused_at k place) = refl

      begun : (o : Outcome Layout) → at_place t o (λ l. go_on (add_read w part packing t (length ms) l i) (closed w t))
          ≡ by_hand t j (bind (and_then o 0 (λ l. add_members (member_step w ported packing) 0 l (members ms))) (λ l. and_then (pad_for w l) (length (members ms)) composed))
      begun (answered l) = rw (run_by_hand g 0 l r) (padded (add_members (member_step w ported packing) 0 l (members ms)))
      begun (refused k) = refl

-- a part by its tag
module _ (w : ℕ) (target : Target) (s : List ℕ) (t : ℕ) where
  pub tagged_code : (inside : Form → Placed Part) {j : ℕ} {l : Layout} → ScalarIs target s t j l → tagged_at target s t inside ≡ reached (l, j)
  tagged_code inside (a_code {b = b} h g) = rw (byte_is s t h, tag_code b g)

  pub tagged_array : (inside : Form → Placed Part) → IsByte s t 16 → tagged_at target s t inside ≡ inside array
  tagged_array inside h = rw (byte_is s t h)

  pub tagged_struct : (inside : Form → Placed Part) (c : Counted) → IsByte s t (struct_tag c) → tagged_at target s t inside ≡ inside (struct c)
  tagged_struct inside by_one h = rw (byte_is s t h)
  tagged_struct inside by_two h = rw (byte_is s t h)

  pub tagged_slice : (inside : Form → Placed Part) → IsByte s t 18 → tagged_at target s t inside ≡ inside slice
  tagged_slice inside h = rw (byte_is s t h)

  -- a struct by its header
  pub struct_is : (part : Reader) {c : Counted} {align packing n : ℕ} → Header w s t c align packing n → struct_at w part s t c ≡ struct_body w part t (t + 3 + count_bytes c) align packing n
  unfolding struct_at
  struct_is part {c} h = rw (power_is w s (t + 1) h.aligned, power_is w s (t + 2) h.packed, count_is (count_bytes c) s (t + 3) h.count)

  pub array_is : (part : Reader) {j n : ℕ} {m l : Layout} → IsCount 4 s (t + 1) n → part (t + 1 + 4) ≡ reached (m, j) → array_for w m n ≡ answered l → array_at w part s t ≡ reached (l, j)
  unfolding array_at
  array_is part h e f = rw (count_is 4 s (t + 1) h, e, f)

  pub slice_is : (part : Reader) {j : ℕ} {m l : Layout} → part (t + 1) ≡ reached (m, j) → slice_of_for w m ≡ answered l → slice_at w part t ≡ reached (l, j)
  unfolding slice_at
  slice_is part e f = rw (e, f)

  -- what the grammar says of the level above, the reader gives
  pub given : (part : Reader) (Inner : Stands) → Gives part Inner → {j : ℕ} {l : Layout} → PartIs w target s Inner t j l → tagged_at target s t (form_at w part s t) ≡ reached (l, j)
  given part Inner g (a_scalar h) = tagged_code (form_at w part s t) h
  given part Inner g (an_array {j = j} {m = m} h p q e) = tagged_array (form_at w part s t) h ∙ array_is part p (g (t + 1 + 4) j m q) e
  given part Inner g (a_struct {j = j} {align} {packing} {c} {ms} h r e) =
      tagged_struct (form_at w part s t) c h.tag ∙ struct_is part h ∙ body_by_hand w part Inner packing t g align r ∙ ap (by_hand t j) e
  given part Inner g (a_slice {j = j} {m = m} h q e) = tagged_slice (form_at w part s t) h ∙ slice_is part (g (t + 1) j m q) e

  -- what the reader finds, the grammar says: by what the tag opens
  by_tag : (Is : Layout → ℕ → Type 0) (inside : Form → Placed Part) {j : ℕ} {l : Layout} → ((b : ℕ) → IsByte s t b → b ≤ 8 → Is (scalar_layout target b) (t + 1))
      → ((f : Form) → IsByte s t (tag_byte f) → inside f ≡ reached (l, j) → Is l j) → tagged_at target s t inside ≡ reached (l, j) → Is l j
  by_tag Is inside {j} {l} p q e = let x = went (byte_at s t) (λ b. tagged target t b inside (tag_of b)) e in go x.to (byte_found s t x.first) (tag_of x.to) (tag_means x.to) x.then
    where
      go : (b : ℕ) → IsByte s t b → (g : Tag) → TagMeans b g → tagged target t b inside g ≡ reached (l, j) → Is l j
      go b h code m e = subst (λ (y : Part). Is y.0 y.1) (reached_one e) (p b h m)
      go b h (opens array) m e = q array (subst (IsByte s t) m h) e
      go b h (opens (struct c)) m e = q (struct c) (subst (IsByte s t) m h) e
      go b h (opens slice) m e = q slice (subst (IsByte s t) m h) e
      go b h unknown m e = absurd (not_stopped e)

  module _ (part : Reader) (Inner : Stands) (f : Finds part Inner) {j : ℕ} {l : Layout} where
    array_found : IsByte s t 16 → array_at w part s t ≡ reached (l, j) → PartIs w target s Inner t j l
    unfolding array_at
    array_found h e =
        let x = went (count_at 4 s (t + 1)) (λ n. go_on (part (t + 1 + 4)) (λ x. at_place t (array_for w x.0 n) (λ l. reached (l, x.1)))) e in
        let y = went (part (t + 1 + 4)) (λ y. at_place t (array_for w y.0 x.to) (λ l. reached (l, y.1))) x.then in
        let z = went_at t (array_for w y.to.0 x.to) (λ l. reached (l, y.to.1)) y.then in
        let c = count_found 4 s (t + 1) x.first in
        subst (λ (u : Part). PartIs w target s Inner t u.1 u.0) (reached_one z.then)
        (an_array h c (f (t + 1 + 4) y.to.1 y.to.0 y.first) z.first)

    slice_found : IsByte s t 18 → slice_at w part t ≡ reached (l, j) → PartIs w target s Inner t j l
    unfolding slice_at
    slice_found h e =
        let y = went (part (t + 1)) (λ y. at_place t (slice_of_for w y.0) (λ l. reached (l, y.1))) e in
        let z = went_at t (slice_of_for w y.to.0) (λ l. reached (l, y.to.1)) y.then in
        subst (λ (u : Part). PartIs w target s Inner t u.1 u.0) (reached_one z.then)
        (a_slice h (f (t + 1) y.to.1 y.to.0 y.first) z.first)

    struct_found : (k : Counted) → IsByte s t (struct_tag k) → struct_at w part s t k ≡ reached (l, j) → PartIs w target s Inner t j l
    unfolding struct_at
    struct_found k h e =
        let i = t + 3 + count_bytes k in
        let a = went (power_at w s (t + 1)) (λ align. go_on (power_at w s (t + 2)) (λ packing. go_on (count_at (count_bytes k) s (t + 3)) (λ n. struct_body w part t i align packing n))) e in
        let b = went (power_at w s (t + 2)) (λ packing. go_on (count_at (count_bytes k) s (t + 3)) (λ n. struct_body w part t i a.to packing n)) a.then in
        let c = went (count_at (count_bytes k) s (t + 3)) (λ n. struct_body w part t i a.to b.to n) b.then in
        let d = went_at t (begin_for w ported a.to b.to) (λ l. go_on (add_read w part b.to t c.to l i) (closed w t)) c.then in
        let u = went (add_read w part b.to t c.to d.to i) (closed w t) d.then in
        let v = went_at t (pad_for w u.to.0) (λ l. reached (l, u.to.1)) u.then in
        let r = run_found w part Inner b.to t f c.to 0 i u.to.1 d.to u.to.0 u.first in
        subst (λ (y : Part). PartIs w target s Inner t y.1 y.0) (reached_one v.then)
        (a_struct {c = k}
        (record { tag = h; aligned = power_found w s (t + 1) a.first; packed = power_found w s (t + 2) b.first; count = subst (IsCount (count_bytes k) s (t + 3)) (sym r.count) (count_found (count_bytes k) s (t + 3) c.first) })
        r.run
        (struct_made w a.to b.to r.ms d.first r.adds v.first))

    form_found : (g : Form) → IsByte s t (tag_byte g) → form_at w part s t g ≡ reached (l, j) → PartIs w target s Inner t j l
    form_found array h e = array_found h e
    form_found (struct k) h e = struct_found k h e
    form_found slice h e = slice_found h e

    pub found : tagged_at target s t (form_at w part s t) ≡ reached (l, j) → PartIs w target s Inner t j l
    found e = by_tag (λ l j. PartIs w target s Inner t j l) (form_at w part s t) (λ b h p. a_scalar (a_code h p)) form_found e

-- the reader accepts exactly the descriptions, and gives their layouts
module _ (w : ℕ) (target : Target) (s : List ℕ) where
  pub reads : (d : ℕ) → Gives (part_for w target d s) (Describes w target d s)
  unfolding part_for Describes
  reads zero i j m h = tagged_code w target s i (λ f. stopped 35 i) h
  reads (suc d) i j m h = given w target s i (part_for w target d s) (Describes w target d s) (reads d) h

  pub describes : (d : ℕ) → Finds (part_for w target d s) (Describes w target d s)
  unfolding part_for Describes
  describes zero i j m e = by_tag w target s i (λ l k. ScalarIs target s i k l) (λ f. stopped 35 i) (λ b h p. a_code h p) (λ f h e. absurd (not_stopped e)) e
  describes (suc d) i j m e = found w target s i (part_for w target d s) (Describes w target d s) (describes d) e
