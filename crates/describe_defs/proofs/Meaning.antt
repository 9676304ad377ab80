-- What reading a description means: it gives the layout that the bytes describe, which is one, and composition by hand gives it too.
-- Assumes nothing.
use mathlib.Core.Path.{◌≡◌, refl, sym, subst, ◌∙◌}
use mathlib.Core.List.{List}
use Prim.Native.Nat.{ℕ, zero, suc, ◌+◌, ◌%◌, ◌≤◌, ◌<◌}
use native.Mathlib.Omega.{arith}
use borrow.Author.Tests.{eq-eqb, eqb-true}
use lib.Dec.{eqb}
use lib.ListN.{length}
use Rattle.util_defs.specs.Placed.{reached}
use Rattle.layout_defs.specs.Layout.{Layout}
use Rattle.scalar.specs.Scalar.{Target}
use Rattle.compose_defs.specs.Compose.{struct_for}
use Rattle.describe_defs.specs.Describe.{Part, part_for, wholly, described_for, form_at}
use Rattle.describe_defs.specs.Grammar.{Stands, Run, none, one, ScalarIs, a_code, PartIs, a_scalar, an_array, a_struct, a_slice}
use Rattle.describe_defs.specs.Grammar.{Describes, Description}
use Rattle.describe_defs.specs.ByHand.{OneLayout, AsByHand, AsByRecords}
use Rattle.describe_defs.proofs.Steps.{reached_one, went, went_if}
use Rattle.describe_defs.proofs.Grammar.{tagged_struct, struct_is, body_by_hand, reads, describes}

-- ---- a part moves on within the bytes: what makes the bytes left fall
abbrev pub Past : List ℕ → ℕ → ℕ → Type 0
Past s i j = (i < j) × (j ≤ length s)

scalar_past : (target : Target) (s : List ℕ) {i j : ℕ} {l : Layout} → ScalarIs target s i j l → Past s i j
scalar_past target s (a_code h p) = omega (arith, h.within)

pub run_past : (s : List ℕ) (Inner : Stands) → ((i j : ℕ) (m : Layout) → Inner i j m → Past s i j) → {i j : ℕ} {ms : List Layout} → Run Inner i j ms → i ≤ length s → (i ≤ j) × (j ≤ length s)
run_past s Inner f none h = omega arith
run_past s Inner f (one {i = i} {j = j} {m = m} p r) h =
    let x = f i j m p in
    let y = run_past s Inner f r x.1 in
    omega (arith, x, y)

part_past : (w : ℕ) (target : Target) (s : List ℕ) (Inner : Stands) → ((i j : ℕ) (m : Layout) → Inner i j m → Past s i j) → {i j : ℕ} {l : Layout} → PartIs w target s Inner i j l → Past s i j
part_past w target s Inner f (a_scalar h) = scalar_past target s h
part_past w target s Inner f (an_array {t = t} {j = j} {m = m} h p q e) = omega (arith, f (t + 1 + 4) j m q)
part_past w target s Inner f (a_struct h r e) = omega (arith, run_past s Inner f r h.count.within)
part_past w target s Inner f (a_slice {t = t} {j = j} {m = m} h q e) = omega (arith, f (t + 1) j m q)

module _ (w : ℕ) (target : Target) (s : List ℕ) where
  pub described_past : (d i j : ℕ) (l : Layout) → Describes w target d s i j l → Past s i j
  unfolding Describes
  described_past zero i j l h = scalar_past target s h
  described_past (suc d) i j l h = part_past w target s (Describes w target d s) (described_past d) h

  pub moved : (d i j : ℕ) (l : Layout) → part_for w target d s i ≡ reached (l, j) → Past s i j
  moved d i j l e = described_past d i j l (describes w target s d i j l e)

  -- ---- bytes from a place on describe one layout, and end at one place
  pub one_part : (d i : ℕ) {j k : ℕ} {l m : Layout} → Describes w target d s i j l → Describes w target d s i k m → ◌≡◌ {A = Part} (l, j) (m, k)
  one_part d i {j} {k} {l} {m} h g = reached_one (sym (reads w target s d i j l h) ∙ reads w target s d i k m g)

  -- ---- the whole
  pub accepted : {l : Layout} → Description w target s l → described_for w target s ≡ reached l
  unfolding described_for
  accepted {l} h = rw (reads w target s 16 0 (length s) l h, eq-eqb (length s) (length s) refl)

  pub accepts : {l : Layout} → described_for w target s ≡ reached l → Description w target s l
  unfolding described_for
  accepts {l} e =
      let x = went (part_for w target 16 s 0) (wholly s) e in
      let y = went_if (eqb x.to.1 (length s)) x.to.0 l 38 x.to.1 x.then in
      let g = describes w target s 16 0 x.to.1 x.to.0 x.first in
      subst (λ (j : ℕ). Describes w target 16 s 0 j l) (eqb-true x.to.1 (length s) y.0) (subst (λ (m : Layout). Describes w target 16 s 0 x.to.1 m) y.1 g)

  pub one_layout : OneLayout w target s
  one_layout l m h g = reached_one (sym (accepted h) ∙ accepted g)

  -- ---- "The result is the one composition by hand would give": of its members' layouts, and of a list of their records
  pub as_by_hand : AsByHand w target s
  unfolding part_for
  as_by_hand d t j align packing c ms h r =
      tagged_struct w target s t (form_at w (part_for w target d s) s t) c h.tag ∙ struct_is w target s t (part_for w target d s) h
      ∙ body_by_hand w (part_for w target d s) (Describes w target d s) packing t (reads w target s d) align r

  pub as_by_records : AsByRecords w target s
  unfolding struct_for
  as_by_records d t j align packing c ms rs h r e f = as_by_hand d t j align packing c ms h r ∙ rw (eq-eqb (length rs % 48) 0 e, f)
