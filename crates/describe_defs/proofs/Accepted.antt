-- A layout that bytes describe is accepted: the own causes of a layout, 1 and 2, do not arise in reading. Assumes nothing.
use mathlib.Core.Path.{◌≡◌, refl, sym, subst}
use mathlib.Core.List.{List, [], ◌∷◌}
use Prim.Native.Nat.{ℕ, zero, suc}
use native.Mathlib.Omega.{arith}
use borrow.Author.Tests.{not-false, ne_eqb}
use Rattle.util_defs.specs.Power.{power_of_two}
use Rattle.util_defs.specs.Refusal.{answered, unless}
use Rattle.util_defs.proofs.Powers.{positive, test_sound, test_below}
use Rattle.util_defs.proofs.Tables.{answer_is, passed, passed_both, passes}
use Rattle.layout_defs.specs.Layout.{Layout, layout_causes, check_for}
use Rattle.layout_defs.specs.Extend.{rounding_passes}
use Rattle.layout_defs.proofs.Layouts.{fixed_accepted}
use Rattle.padding_defs.specs.Pad.{padding_needs, padded, pad_causes, pad_for}
use Rattle.padding_defs.proofs.Settled.{pad_again}
use Rattle.scalar.specs.Scalar.{Target, target64}
use Rattle.compose_defs.proofs.Accepted.{closed}
use Rattle.describe_defs.specs.Elements.{array_layout, element_causes, array_causes, array_for, slice_of, slice_of_for}
use Rattle.describe_defs.specs.Grammar.{Stands, members, a_code, PartIs, a_scalar, an_array, a_struct, a_slice, Describes}
use Rattle.describe_defs.specs.Faults.{ScalarsAccepted}

pub scalars64 : ScalarsAccepted 64 target64
unfolding check_for unless power_of_two
scalars64 zero h = refl
scalars64 (suc zero) h = refl
scalars64 (suc (suc zero)) h = refl
scalars64 (suc (suc (suc zero))) h = refl
scalars64 (suc (suc (suc (suc zero)))) h = refl
scalars64 (suc (suc (suc (suc (suc zero))))) h = refl
scalars64 (suc (suc (suc (suc (suc (suc zero)))))) h = refl
scalars64 (suc (suc (suc (suc (suc (suc (suc zero))))))) h = refl
scalars64 (suc (suc (suc (suc (suc (suc (suc (suc zero)))))))) h = refl
scalars64 (suc (suc (suc (suc (suc (suc (suc (suc (suc b))))))))) h = absurd (omega (arith, h))

module _ (w : ℕ) where
  pub padded_accepted : (l : Layout) {r : Layout} → pad_for w l ≡ answered r → check_for w r ≡ answered tt
  unfolding pad_for check_for
  padded_accepted l {r} e =
      let x = passed (pad_causes w l) (padded w l) e in
      let y = pad_again w l (test_below w l.align (not-false (power_of_two w l.align) x.0)) e in
      passes (layout_causes w r) tt (passed_both (layout_causes w r) (rounding_passes w (padding_needs w r.align r.info) ∷ []) (passed (pad_causes w r) (padded w r) y)).0

  pub array_accepted : (m : Layout) (n : ℕ) {l : Layout} → array_for w m n ≡ answered l → check_for w l ≡ answered tt
  unfolding array_for
  array_accepted m n e =
      let x = passed (array_causes w m n) (array_layout m n) e in
      subst (λ (l : Layout). check_for w l ≡ answered tt) (sym (answer_is (array_causes w m n) (array_layout m n) e))
      (fixed_accepted w m.align _ _ _ (not-false (power_of_two w m.align) x.0))

  pub slice_accepted : (m : Layout) {l : Layout} → slice_of_for w m ≡ answered l → check_for w l ≡ answered tt
  unfolding slice_of_for check_for unless
  slice_accepted m e =
      let x = passed (element_causes w m) (slice_of m) e in
      let p = not-false (power_of_two w m.align) x.0 in
      subst (λ (l : Layout). check_for w l ≡ answered tt) (sym (answer_is (element_causes w m) (slice_of m) e))
      (rw (p, ne_eqb m.align 0 (λ z. omega (arith, z, positive (test_sound w m.align p)))))

  module _ (target : Target) (good : ScalarsAccepted w target) (s : List ℕ) where
    part_accepted : (Inner : Stands) {i j : ℕ} {l : Layout} → PartIs w target s Inner i j l → check_for w l ≡ answered tt
    part_accepted Inner (a_scalar (a_code {b = b} h p)) = good b p
    part_accepted Inner (an_array {m = m} h p q e) = array_accepted m _ e
    part_accepted Inner (a_struct {align = a} {packing = p} {ms = ms} h r e) = let x = closed w a p (members ms) e in padded_accepted x.whole x.closes
    part_accepted Inner (a_slice {m = m} h q e) = slice_accepted m e

    pub described_accepted : (d i j : ℕ) (l : Layout) → Describes w target d s i j l → check_for w l ≡ answered tt
    unfolding Describes
    described_accepted zero i j l (a_code {b = b} h p) = good b p
    described_accepted (suc d) i j l h = part_accepted (Describes w target d s) h
