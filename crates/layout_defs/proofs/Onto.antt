-- The member step onto a layout that is accepted, at any width w. Assumes nothing.
use mathlib.Core.Path.{◌≡◌, refl, sym, ap, ◌∙◌, subst}
use mathlib.Core.Bool.{Bool, true, false, cond, ◌||◌}
use Prim.Native.Nat.{ℕ, ◌≤◌, ◌<◌, max, min}
use native.Mathlib.Omega.{arith}
use lib.Dec.{eqb}
use borrow.Author.Tests.{not-false}
use Rattle.util_defs.specs.Power.{PowerOfTwo, power_of_two}
use Rattle.util_defs.specs.Refusal.{answered, refused, unless}
use Rattle.util_defs.proofs.Refusals.{told_true}
use Rattle.util_defs.proofs.Powers.{test_sound, test_below, tells_power, max_power}
use Rattle.util_defs.proofs.Tables.{answer_is, refused_first, accepted_first, passed, passed_both}
use Rattle.layout_defs.specs.Layout.{Layout, layout_causes, check_for}
use Rattle.layout_defs.specs.Extend.{member_align, extended, bad_packing, step_causes, onto_causes, extend_causes, onto_for, extend_for}
use Rattle.layout_defs.proofs.Steps.{min_power, member_le}

-- the step onto a layout that is accepted is the step; by what the check of the member says
pub onto_extend : (w : ℕ) (l m : Layout) (packing : ℕ) → check_for w l ≡ answered tt → onto_for w l m packing ≡ extend_for w l m packing
unfolding onto_for extend_for check_for
onto_extend w l m packing e = sym (accepted_first (layout_causes w l) (onto_causes w l m packing) tt (extended l m packing) e)

pub onto_member : {k : ℕ} (w : ℕ) (l m : Layout) (packing : ℕ) → check_for w m ≡ refused k → refused k ≡ onto_for w l m packing
unfolding onto_for check_for
onto_member w l m packing f = sym (refused_first (layout_causes w m) (step_causes w l m packing) tt (extended l m packing) f)

pub onto_step : (w : ℕ) (l m : Layout) (packing : ℕ) → check_for w m ≡ answered tt → unless (step_causes w l m packing) (extended l m packing) ≡ onto_for w l m packing
unfolding onto_for check_for
onto_step w l m packing f = sym (accepted_first (layout_causes w m) (step_causes w l m packing) tt (extended l m packing) f)

-- the alignment after a step that is accepted is a power of two where the layout's is one
pub align_kept : (w : ℕ) (l m : Layout) (packing : ℕ) {r : Layout} → power_of_two w l.align ≡ true → extend_for w l m packing ≡ answered r → power_of_two w r.align ≡ true
unfolding extend_for extended
align_kept w l m packing {r} own e =
    let x = passed_both (layout_causes w l) (onto_causes w l m packing) (passed (extend_causes w l m packing) (extended l m packing) e) in
    let y = passed_both (layout_causes w m) (step_causes w l m packing) x.1 in
    let q = not-false (power_of_two w m.align) y.0.0 in
    let b = member_align m.align packing in
    let k : r.align ≡ max l.align b = ap (λ (z : Layout). z.align) (answer_is (extend_causes w l m packing) (extended l m packing) e) in
    let pb = packed_power y.1.0 (test_sound w m.align q) in
    subst (λ (z : ℕ). power_of_two w z ≡ true) (sym k)
    (told_true (tells_power w (max l.align b) (max_below (test_below w l.align own) (le_below (member_le m.align packing) (test_below w m.align q))))
    (max_power (test_sound w l.align own) pb))
  where
    packed_power : (bad_packing w packing).test ≡ false → PowerOfTwo m.align → PowerOfTwo (member_align m.align packing)
    packed_power t p = go (eqb packing 0) refl
      where
        go : (b : Bool) → eqb packing 0 ≡ b → PowerOfTwo (cond b m.align (min m.align packing))
        go true z = p
        go false z = min_power p (test_sound w packing (sym (ap (λ (b : Bool). b || power_of_two w packing) z) ∙ not-false (eqb packing 0 || power_of_two w packing) t))

    le_below : {a b c : ℕ} → a ≤ b → b < c → a < c
    le_below {a} {b} {c} h g = omega (arith, h, g)

    max_below : {a b c : ℕ} → a < c → b < c → max a b < c
    max_below {a} {b} {c} h g = omega (arith, h, g)
