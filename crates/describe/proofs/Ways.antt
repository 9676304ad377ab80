-- The ways of the reading. Assumes nothing.
use mathlib.Core.Path.{◌≡◌, refl, sym, ap, ◌∙◌}
use mathlib.Core.List.{List}
use Prim.Native.Nat.{ℕ, ◌-◌, ◌≤◌}
use borrow.Author.Tests.{le-ltb, eq-eqb, ne_eqb}
use lib.ListN.{length}
use Rattle.std.specs.Prelude.{Result}
use Rattle.std.specs.Result.{IsErrAnd}
use Rattle.std.proofs.lemmas.Result.{err_from_is_err_and}
use Rattle.util.specs.View.{number_of}
use Rattle.util_defs.specs.Refusal.{Outcome, answered, refused, unless}
use Rattle.util_defs.specs.Placed.{Placed, reached, stopped, at_place, go_on}
use Rattle.layout_defs.specs.Layout.{Layout}
use Rattle.layout_defs.specs.Extend.{extend_for}
use Rattle.make.specs.Make.{new_zst_for}
use Rattle.scalar.specs.Scalar.{Target, scalar_layout, scalar_for}
use Rattle.compose_defs.specs.Compose.{ported, member_step}
use Rattle.compose_defs.proofs.Compositions.{step_on, begin_own, begin_on}
use Rattle.describe_defs.specs.Describe.{Part, Reader, add_read, closed, struct_body, part_for, described_for}
use Rattle.describe_defs.specs.Heads.{Head, head_at, made, body_at}
use Rattle.describe_defs.specs.Faults.{ScalarsAccepted, PartMeans, ReadMeans}
use Rattle.describe_defs.proofs.Heads.{part_by_head}
use Rattle.describe_defs.proofs.Reading.{part_means, read_means}
use Rattle.describe.specs.declared.ReadPart.{ReadPart}
use Rattle.describe.specs.declared.Stop.{Stop}
use Rattle.describe.specs.View.{stop_says}

-- a stop that is handed on is the outcome that the callee's is
pub handed_on_stop : {o : Placed Part} (r : Result (ReadPart ℕ) Stop) (k : Stop) → IsErrAnd r (λ e. e ≡ k)
    → stopped (number_of k.refusal) k.place ≡ o → stop_says r ≡ o
handed_on_stop r k h x = let p = err_from_is_err_and r h in ap stop_says p.1 ∙ (ap (λ e. stopped (number_of e.refusal) e.place) p.2 ∙ x)

-- a code is a scalar
pub code_scalar : (target : Target) (code : ℕ) → code ≤ 8 → scalar_for target code ≡ answered (scalar_layout target code)
unfolding scalar_for unless
code_scalar target code h = rw (le-ltb 8 code h)

-- a part by the head that was read
pub by_head : (w : ℕ) (target : Target) (d : ℕ) (s : List ℕ) (t : ℕ) {h : Placed Head} → head_at w d s t ≡ h → part_for w target d s t ≡ go_on h (body_at w target (part_for w target (d - 1) s) t)
by_head w target d s t e = part_by_head w target d s t ∙ ap (λ (p : Placed Head). go_on p (body_at w target (part_for w target (d - 1) s) t)) e

-- what was read, and what it means
pub part_told : (w : ℕ) (target : Target) → ScalarsAccepted w target → (d : ℕ) (s : List ℕ) (t : ℕ) {r : Placed Part} → r ≡ part_for w target d s t → (r ≡ part_for w target d s t) × PartMeans w target s d t r
part_told w target good d s t {r} e = (e, part_means w target s good d t r (sym e))

-- a struct from its empty layout on
module _ (w : ℕ) (part : Reader) (t i align packing n : ℕ) where
  pub body_on : {l : Layout} → new_zst_for w align ≡ answered l → struct_body w part t i align packing n ≡ go_on (add_read w part packing t n l i) (closed w t)
  body_on e = ap (λ (o : Outcome Layout). at_place t o (λ l. go_on (add_read w part packing t n l i) (closed w t))) (begin_on w ported align packing e refl)

  pub body_off : {k : ℕ} → new_zst_for w align ≡ refused k → struct_body w part t i align packing n ≡ stopped k t
  body_off e = ap (λ (o : Outcome Layout). at_place t o (λ l. go_on (add_read w part packing t n l i) (closed w t))) (begin_own w ported align packing e)

-- what a part is made into, by two steps that agree on what was read
pub made_alike : (p : Placed Part) (t : ℕ) (f g : Layout → Outcome Layout) → ((l : Layout) (j : ℕ) → p ≡ reached (l, j) → f l ≡ g l)
    → go_on p (made t f) ≡ go_on p (made t g)
made_alike (reached x) t f g h = ap (λ (o : Outcome Layout). at_place t o (λ l. reached (l, x.1))) (h x.0 x.1 refl)
made_alike (stopped k i) t f g h = refl

-- a member step is that of a layout
pub step_is : (w packing : ℕ) (l m : Layout) {o : Outcome Layout} → extend_for w l m packing ≡ o → member_step w ported packing l (answered m) ≡ o
step_is w packing l m e = step_on w ported packing l m refl ∙ e

-- the whole, and what it means
pub whole_told : (w : ℕ) (target : Target) → ScalarsAccepted w target → (s : List ℕ) {r : Placed Layout} → r ≡ described_for w target s → (r ≡ described_for w target s) × ReadMeans w target s r
whole_told w target good s {r} e = (e, read_means w target s good r (sym e))

module _ (w : ℕ) (target : Target) (s : List ℕ) where
  pub whole_on : {l : Layout} {j : ℕ} → part_for w target 16 s 0 ≡ reached (l, j) → j ≡ length s → reached l ≡ described_for w target s
  unfolding described_for
  whole_on {l} {j} e f = sym (rw (e, eq-eqb j (length s) f))

  pub whole_over : {l : Layout} {j : ℕ} → part_for w target 16 s 0 ≡ reached (l, j) → (j ≡ length s → ⊥) → stopped 38 j ≡ described_for w target s
  unfolding described_for
  whole_over {l} {j} e f = sym (rw (e, ne_eqb j (length s) f))

  pub whole_off : {k i : ℕ} → part_for w target 16 s 0 ≡ stopped k i → stopped k i ≡ described_for w target s
  unfolding described_for
  whole_off e = sym (rw e)
