-- What is read of a description at a width, the width holds. Assumes nothing.
use mathlib.Core.Bool.{Bool, true, false}
use mathlib.Core.Path.{◌≡◌, refl, sym, ap, subst, ◌∙◌}
use mathlib.Core.List.{List, [], ◌∷◌}
use Prim.Native.Nat.{ℕ, zero, suc, ◌+◌, ◌^◌, ◌≤◌, ◌<◌}
use native.Mathlib.Omega.{arith}
use lib.Pow.{pow_pos}
use lib.ListN.{length}
use Rattle.util_defs.specs.Width.{M}
use Rattle.util_defs.specs.Refusal.{answered}
use Rattle.util_defs.specs.Placed.{reached, at_place}
use Rattle.layout_defs.specs.Layout.{Layout}
use Rattle.padding_defs.specs.Pad.{pad_for}
use Rattle.make.specs.Make.{empty_layout}
use Rattle.scalar.specs.Scalar.{Target, scalar_layout}
use Rattle.compose_defs.specs.Compose.{composed, ported, member_step, add_members}
use Rattle.compose_defs.proofs.Accepted.{closed, onward, nothing_more}
use Rattle.compose_defs.proofs.Compositions.{step_on}
use Rattle.describe_defs.specs.Elements.{array_for, slice_of_for}
use Rattle.describe_defs.specs.Describe.{Part, add_read, part_for, described_for}
use Rattle.describe_defs.specs.Heads.{struct_head, head_at, HeaderTo, header}
use Rattle.describe_defs.specs.Grammar.{Stands, IsPower, Run, none, one, members, a_code, PartIs, a_scalar, an_array, a_struct, a_slice, Describes}
use Rattle.describe_defs.proofs.Steps.{reached_one, went, went_at}
use Rattle.describe_defs.proofs.Grammar.{describes}
use Rattle.describe_defs.proofs.Meaning.{accepts}
use Rattle.describe_defs.proofs.Heads.{head_found}
use Rattle.widths_layouts_defs.specs.Low.{LayoutIn}
use Rattle.widths_layouts_defs.specs.Within.{pad_within}
use Rattle.elements32.specs.Within.{array_within}
use Rattle.widths_layouts_defs.proofs.Made.{asked_in}
use Rattle.widths_layouts_defs.proofs.Step.{extend_in}
use Rattle.widths_layouts_defs.proofs.Closing.{pad_low}
use Rattle.scalar32.specs.Target.{target32}
use Rattle.scalar32.proofs.Accepted.{held32}
use Rattle.elements32.proofs.Narrowed.{array_low, slice_low}
use Rattle.width.specs.Width.{bits_of, target_of, Held}
use Rattle.width.proofs.Steps.{answered_in}

-- the number of a power that was read
power_in : (v : ℕ) (s : List ℕ) (i a : ℕ) → IsPower v s i a → a < 2 ^ v
power_in v s i a h = omega (arith, h.is, h.fits, pow_pos v)

module _ (v : ℕ) (positive : 0 < v) (target : Target) (scalars : (b : ℕ) → b ≤ 8 → LayoutIn v (scalar_layout target b)) (s : List ℕ) where
  abbrev AllIn : List Layout → Type 0
  AllIn [] = Unit {0}
  AllIn (m ∷ ms) = LayoutIn v m × AllIn ms

  abbrev Holds : Stands → Type 0
  Holds Inner = (i j : ℕ) (l : Layout) → Inner i j l → LayoutIn v l

  run_in : {Inner : Stands} {i j : ℕ} {ms : List Layout} → Holds Inner → Run Inner i j ms → AllIn ms
  run_in h none = tt
  run_in h (one x r) = (h _ _ _ x, run_in h r)

  -- members that v bits hold compose to what they hold
  fold_in : (p i : ℕ) (l : Layout) (ms : List Layout) {r : Layout} → p < 2 ^ v → LayoutIn v l → AllIn ms
      → add_members (member_step v ported p) i l (members ms) ≡ composed r → LayoutIn v r
  fold_in p i l [] hp hl hs e = subst (LayoutIn v) (nothing_more (member_step v ported p) i l e) hl
  fold_in p i l (m ∷ ms) hp hl hs e =
      let x = onward (member_step v ported p) i l (answered m) (members ms) e in
      fold_in p (suc i) x.next ms hp (extend_in v l m p x.next hl hs.0 hp (sym (step_on v ported p l m refl) ∙ x.taken)) hs.1 x.rest

  part_is_in : (Inner : Stands) → Holds Inner → {i j : ℕ} {l : Layout} → PartIs v target s Inner i j l → LayoutIn v l
  part_is_in Inner h (a_scalar (a_code {b = b} x p)) = scalars b p
  part_is_in Inner h (an_array {n = n} {m = m} x c y e) = answered_in v (array_within (M v) (array_for v m n)) (array_low v v m n (omega arith) (h _ _ m y).align) e
  part_is_in Inner h (a_struct {align = a} {packing = p} {ms = ms} x r e) =
      let y = closed v a p (members ms) e in
      let f = asked_in v a positive (power_in v s _ a x.aligned) in
      let g = fold_in p 0 (empty_layout a) ms (power_in v s _ p x.packed) (record { align = f; info = pow_pos v }) (run_in h r) y.composes in
      answered_in v (pad_within (M v) (pad_for v y.whole)) (pad_low v v y.whole (omega arith) g) y.closes
  part_is_in Inner h (a_slice {m = m} x y e) = answered_in v (slice_of_for v m) (slice_low v v m (omega arith) (h _ _ m y)) e

  described_in : (d : ℕ) → Holds (Describes v target d s)
  unfolding Describes
  described_in zero i j l (a_code {b = b} x p) = scalars b p
  described_in (suc d) i j l x = part_is_in (Describes v target d s) (described_in d) x

  part_in : (d i : ℕ) {l : Layout} {j : ℕ} → part_for v target d s i ≡ reached (l, j) → LayoutIn v l
  part_in d i {l} {j} e = described_in d i j l (describes v target s d i j l e)

  -- members that are read and added
  add_in : (d p t n : ℕ) (l : Layout) (i : ℕ) {r : Layout} {j : ℕ} → p < 2 ^ v → LayoutIn v l
      → add_read v (part_for v target d s) p t n l i ≡ reached (r, j) → LayoutIn v r
  unfolding add_read
  add_in d p t zero l i hp hl e = subst (LayoutIn v) (ap (λ (x : Part). x.0) (reached_one e)) hl
  add_in d p t (suc n) l i hp hl e =
      let part = part_for v target d s in
      let x = went (part i) (λ m. at_place t (member_step v ported p l (answered m.0)) (λ l'. add_read v part p t n l' m.1)) e in
      let m = x.to.0 in
      let y = went_at t (member_step v ported p l (answered m)) (λ l'. add_read v part p t n l' x.to.1) x.then in
      add_in d p t n y.to x.to.1 hp
      (extend_in v l m p y.to hl (part_in d i x.first) hp (sym (step_on v ported p l m refl) ∙ y.first)) y.then

scalar_in : (b : ℕ) → b ≤ 8 → LayoutIn 32 (scalar_layout target32 b)
scalar_in b h = record { align = omega (arith, (held32 b h).align); info = omega (arith, (held32 b h).size) }

pub part_held : (k : Bool) (s : List ℕ) (d t : ℕ) {l : Layout} {j : ℕ} → part_for (bits_of k) (target_of k) d s t ≡ reached (l, j) → Held k l
part_held true s d t e = part_in 32 (omega arith) target32 scalar_in s d t e
part_held false s d t e = tt

pub read_held : (k : Bool) (s : List ℕ) {l : Layout} → described_for (bits_of k) (target_of k) s ≡ reached l → Held k l
read_held true s {l} e = described_in 32 (omega arith) target32 scalar_in s 16 0 (length s) l (accepts 32 target32 s e)
read_held false s e = tt

pub added_held : (k : Bool) (s : List ℕ) (d p t n : ℕ) (l : Layout) (i : ℕ) {r : Layout} {j : ℕ} → Held k l → p < 2 ^ bits_of k
    → add_read (bits_of k) (part_for (bits_of k) (target_of k) d s) p t n l i ≡ reached (r, j) → Held k r
added_held true s d p t n l i hl hp e = add_in 32 (omega arith) target32 scalar_in s d p t n l i hp hl e
added_held false s d p t n l i hl hp e = tt

-- and so are the numbers of a struct's head
pub head_held : (k : Bool) (s : List ℕ) (d t : ℕ) {a p n i : ℕ} → head_at (bits_of k) d s t ≡ reached (struct_head a p n i)
    → (a < 2 ^ bits_of k) × (p < 2 ^ bits_of k)
head_held k s d t {a} {p} {n} {i} e = go (head_found (bits_of k) s t d (struct_head a p n i) e).1
  where
    go : {i : ℕ} → HeaderTo (bits_of k) s t a p n i → (a < 2 ^ bits_of k) × (p < 2 ^ bits_of k)
    go (header c h) = (power_in (bits_of k) s (t + 1) a h.aligned, power_in (bits_of k) s (t + 2) p h.packed)
