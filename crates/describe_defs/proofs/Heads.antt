-- A part is read by its head, and what is read by the code's steps. Assumes nothing.
use mathlib.Core.Path.{◌≡◌, refl, sym, subst, ◌∙◌}
use mathlib.Core.List.{List}
use Prim.Native.Nat.{ℕ, zero, suc, ◌+◌, ◌-◌, ◌≤◌, ◌<◌}
use native.Mathlib.Omega.{arith}
use lib.ListN.{length}
use Rattle.util_defs.specs.Refusal.{answered, refused}
use Rattle.util_defs.specs.Placed.{Placed, reached, stopped, go_on}
use Rattle.layout_defs.specs.Layout.{Layout}
use Rattle.scalar.specs.Scalar.{Target}
use Rattle.compose_defs.specs.Compose.{ported, member_step}
use Rattle.describe_defs.specs.Describe.{by_one, by_two, count_bytes, Part, Reader, Form, array, struct, slice, Tag, code, opens, unknown, tag_of, byte_at, count_at, power_at}
use Rattle.describe_defs.specs.Describe.{add_read, struct_at, array_at, slice_at, form_at, tagged, tagged_at, part_for}
use Rattle.describe_defs.specs.Heads.{Head, code_head, array_head, struct_head, slice_head, packed_head, aligned_head, form_head, opening, tag_head, head_at, body_at, HeaderTo, header, HeadIs, HeadMeans}
use Rattle.describe_defs.specs.Grammar.{IsByte, Header}
use Rattle.describe_defs.specs.Faults.{tag_byte}
use Rattle.describe_defs.proofs.Steps.{not_stopped, reached_one, went, byte_found, byte_is, power_found, power_is, count_found, count_is, TagMeans, tag_means, tag_code}

-- reading on from what reading on gave
assoc : {R S T : Type 0} (p : Placed R) (f : R → Placed S) (g : S → Placed T) → go_on (go_on p f) g ≡ go_on p (λ x. go_on (f x) g)
assoc (reached x) f g = refl
assoc (stopped k i) f g = refl

-- where each step goes on alike
alike : {S T : Type 0} (p : Placed S) (f g : S → Placed T) → ((x : S) → f x ≡ g x) → go_on p f ≡ go_on p g
alike (reached x) f g h = h x
alike (stopped k i) f g h = refl

module _ (w : ℕ) (target : Target) (part : Reader) (s : List ℕ) (t : ℕ) where
  form_by_head : (f : Form) → form_at w part s t f ≡ go_on (form_head w s t f) (body_at w target part t)
  unfolding array_at struct_at slice_at
  form_by_head array = sym (assoc (count_at 4 s (t + 1)) (λ n. reached (array_head n)) (body_at w target part t))
  form_by_head (struct c) =
      alike (power_at w s (t + 1)) _ _ (λ a.
      alike (power_at w s (t + 2)) _ _ (λ p. sym (assoc (count_at (count_bytes c) s (t + 3)) (λ n. reached (struct_head a p n (t + 3 + count_bytes c))) (body_at w target part t)))
      ∙ sym (assoc (power_at w s (t + 2)) (packed_head s t c a) (body_at w target part t)))
      ∙ sym (assoc (power_at w s (t + 1)) (aligned_head w s t c) (body_at w target part t))
  form_by_head slice = refl

  tag_by_head : (inside : Form → Placed Part) (d b : ℕ) → ((f : Form) → inside f ≡ go_on (opening w d s t f) (body_at w target part t))
      → (g : Tag) → tagged target t b inside g ≡ go_on (tag_head w d s t b g) (body_at w target part t)
  tag_by_head inside d b h code = refl
  tag_by_head inside d b h (opens f) = h f
  tag_by_head inside d b h unknown = refl

  tagged_by_head : (inside : Form → Placed Part) (d : ℕ) → ((f : Form) → inside f ≡ go_on (opening w d s t f) (body_at w target part t))
      → tagged_at target s t inside ≡ go_on (head_at w d s t) (body_at w target part t)
  unfolding head_at
  tagged_by_head inside d h =
      alike (byte_at s t) _ _ (λ b. tag_by_head inside d b h (tag_of b)) ∙ sym (assoc (byte_at s t) (λ b. tag_head w d s t b (tag_of b)) (body_at w target part t))

pub part_by_head : (w : ℕ) (target : Target) (d : ℕ) (s : List ℕ) (t : ℕ) → part_for w target d s t ≡ go_on (head_at w d s t) (body_at w target (part_for w target (d - 1) s) t)
unfolding part_for
part_by_head w target zero s t = tagged_by_head w target (part_for w target (0 - 1) s) s t (λ f. stopped 35 t) 0 (λ f. refl)
part_by_head w target (suc d) s t =
    let e : suc d - 1 ≡ d = omega arith in
    rw e (tagged_by_head w target (part_for w target d s) s t (form_at w (part_for w target d s) s t) (suc d) (form_by_head w target (part_for w target d s) s t))

-- what a head has found: the level and the bytes that it needs
abbrev pub Room : ℕ → List ℕ → ℕ → Head → Type 0
Room d s t (code_head b) = (t < length s) × (b ≤ 8)
Room d s t (array_head n) = (0 < d) × (t + 5 ≤ length s)
Room d s t (struct_head align packing n i) = (0 < d) × (t < i) × (i ≤ length s)
Room d s t slice_head = (0 < d) × (t + 1 ≤ length s)

module _ (w : ℕ) (s : List ℕ) (t : ℕ) where
  form_room : (d : ℕ) (f : Form) (h : Head) → t < length s → form_head w s t f ≡ reached h → Room (suc d) s t h
  form_room d array h l e =
      let x = went (count_at 4 s (t + 1)) (λ n. reached (array_head n)) e in
      let c = count_found 4 s (t + 1) x.first in
      subst (Room (suc d) s t) (reached_one x.then) (omega arith, omega (arith, c.within))
  form_room d (struct k) h l e =
      let x = went (power_at w s (t + 1)) (aligned_head w s t k) e in
      let y = went (power_at w s (t + 2)) (packed_head s t k x.to) x.then in
      let z = went (count_at (count_bytes k) s (t + 3)) (λ n. reached (struct_head x.to y.to n (t + 3 + count_bytes k))) y.then in
      let c = count_found (count_bytes k) s (t + 3) z.first in
      subst (Room (suc d) s t) (reached_one z.then) (omega arith, omega arith, c.within)
  form_room d slice h l e = subst (Room (suc d) s t) (reached_one e) (omega arith, omega arith)

  tag_room : (d b : ℕ) (g : Tag) (h : Head) → t < length s → TagMeans b g → tag_head w d s t b g ≡ reached h → Room d s t h
  tag_room d b code h l m e = subst (Room d s t) (reached_one e) (l, m)
  tag_room zero b (opens f) h l m e = absurd (not_stopped e)
  tag_room (suc d) b (opens f) h l m e = form_room d f h l e
  tag_room d b unknown h l m e = absurd (not_stopped e)

  pub head_room : (d : ℕ) {h : Head} → head_at w d s t ≡ reached h → Room d s t h
  unfolding head_at
  head_room d {h} e =
      let x = went (byte_at s t) (λ b. tag_head w d s t b (tag_of b)) e in
      tag_room d x.to (tag_of x.to) h (byte_found s t x.first).within (tag_means x.to) x.then

-- the members by what the code tests
module _ (w : ℕ) (part : Reader) (packing t : ℕ) (l : Layout) (i : ℕ) where
  pub add_stop : (n : ℕ) {k p : ℕ} → (n ≡ 0 → ⊥) → part i ≡ stopped k p → add_read w part packing t n l i ≡ stopped k p
  unfolding add_read
  add_stop zero f e = absurd (f refl)
  add_stop (suc n) f e = rw e

  pub add_off : (n : ℕ) {m : Layout} {j k : ℕ} → (n ≡ 0 → ⊥) → part i ≡ reached (m, j) → member_step w ported packing l (answered m) ≡ refused k → add_read w part packing t n l i ≡ stopped k t
  unfolding add_read
  add_off zero f e g = absurd (f refl)
  add_off (suc n) f e g = rw (e, g)

  pub add_on : (n : ℕ) {m l' : Layout} {j : ℕ} → (n ≡ 0 → ⊥) → part i ≡ reached (m, j) → member_step w ported packing l (answered m) ≡ answered l'
      → add_read w part packing t n l i ≡ add_read w part packing t (n - 1) l' j
  unfolding add_read
  add_on zero f e g = absurd (f refl)
  add_on (suc n) f e g = let d : suc n - 1 ≡ n = omega arith in rw (d, e, g)

  pub add_none : (n : ℕ) → n ≡ 0 → add_read w part packing t n l i ≡ reached (l, i)
  unfolding add_read
  add_none zero e = refl
  add_none (suc n) e = absurd (omega arith)

-- what reading a head means
module _ (w : ℕ) (s : List ℕ) (t : ℕ) where
  form_found : (d : ℕ) (f : Form) (h : Head) → IsByte s t (tag_byte f) → opening w d s t f ≡ reached h → HeadIs w d s t h
  form_found zero f h b e = absurd (not_stopped e)
  form_found (suc d) array h b e =
      let x = went (count_at 4 s (t + 1)) (λ n. reached (array_head n)) e in
      subst (HeadIs w (suc d) s t) (reached_one x.then) (omega arith, (b, count_found 4 s (t + 1) x.first))
  form_found (suc d) (struct k) h b e =
      let x = went (power_at w s (t + 1)) (aligned_head w s t k) e in
      let y = went (power_at w s (t + 2)) (packed_head s t k x.to) x.then in
      let z = went (count_at (count_bytes k) s (t + 3)) (λ n. reached (struct_head x.to y.to n (t + 3 + count_bytes k))) y.then in
      let g : Header w s t k x.to y.to z.to = record { tag = b; aligned = power_found w s (t + 1) x.first; packed = power_found w s (t + 2) y.first; count = count_found (count_bytes k) s (t + 3) z.first } in
      subst (HeadIs w (suc d) s t) (reached_one z.then) (omega arith, header k g)
  form_found (suc d) slice h b e = subst (HeadIs w (suc d) s t) (reached_one e) (omega arith, b)

  pub head_found : (d : ℕ) (h : Head) → head_at w d s t ≡ reached h → HeadIs w d s t h
  unfolding head_at
  head_found d h e =
      let x = went (byte_at s t) (λ b. tag_head w d s t b (tag_of b)) e in
      go x.to (byte_found s t x.first) (tag_of x.to) (tag_means x.to) x.then
    where
      go : (b : ℕ) → IsByte s t b → (g : Tag) → TagMeans b g → tag_head w d s t b g ≡ reached h → HeadIs w d s t h
      go b i code m e = subst (HeadIs w d s t) (reached_one e) (i, m)
      go b i (opens array) m e = form_found d array h (subst (IsByte s t) m i) e
      go b i (opens (struct k)) m e = form_found d (struct k) h (subst (IsByte s t) m i) e
      go b i (opens slice) m e = form_found d slice h (subst (IsByte s t) m i) e
      go b i unknown m e = absurd (not_stopped e)

  pub head_is : (d : ℕ) (h : Head) → HeadIs w d s t h → head_at w d s t ≡ reached h
  unfolding head_at
  head_is d (code_head b) h = rw (byte_is s t h.0, tag_code b h.1)
  head_is zero (array_head n) h = absurd (omega (arith, h.0))
  head_is (suc d) (array_head n) h = rw (byte_is s t h.1.0, count_is 4 s (t + 1) h.1.1)
  head_is zero (struct_head a p n i) h = absurd (omega (arith, h.0))
  head_is (suc d) (struct_head a p n i) h = go i h.1
    where
      go : (i : ℕ) → HeaderTo w s t a p n i → go_on (byte_at s t) (λ b. tag_head w (suc d) s t b (tag_of b)) ≡ reached (struct_head a p n i)
      go i (header by_one g) = rw (byte_is s t g.tag, power_is w s (t + 1) g.aligned, power_is w s (t + 2) g.packed, count_is 1 s (t + 3) g.count)
      go i (header by_two g) = rw (byte_is s t g.tag, power_is w s (t + 1) g.aligned, power_is w s (t + 2) g.packed, count_is 2 s (t + 3) g.count)
  head_is zero slice_head h = absurd (omega (arith, h.0))
  head_is (suc d) slice_head h = rw (byte_is s t h.1)

  pub one_head : (d : ℕ) (h g : Head) → HeadIs w d s t h → HeadIs w d s t g → h ≡ g
  one_head d h g x y = reached_one (sym (head_is d h x) ∙ head_is d g y)

  pub head_told : (d : ℕ) {r : Placed Head} → r ≡ head_at w d s t → (r ≡ head_at w d s t) × HeadMeans w d s t r
  head_told d {r} e = (e, go r (sym e))
    where
      go : (r : Placed Head) → head_at w d s t ≡ r → HeadMeans w d s t r
      go (reached h) e = head_found d h e
      go (stopped k i) e = λ h g. not_stopped (sym e ∙ head_is d h g)
