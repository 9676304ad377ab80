-- The member step, at any width w. Assumes nothing.
use mathlib.Core.Path.{◌≡◌, refl, sym, ◌∙◌, subst}
use mathlib.Core.Bool.{Bool, true, false, cond, ◌||◌}
use mathlib.Core.List.{[], ◌∷◌, ◌++◌}
use mathlib.Core.Logic.{◌⊎◌, inl, inr}
use Prim.Native.Nat.{ℕ, ◌+◌, ◌^◌, ◌≤◌, ◌<◌, max, min}
use native.Mathlib.Nat.{min-eq_left, min-eq_right, min-le_left, le_of_lt}
use native.Mathlib.Omega.{arith}
use lib.Dec.{eqb, leb, ltb}
use borrow.Author.Tests.{leb-true, leb-false, le-ltb, lt-ltb}
use Rattle.util_defs.specs.Width.{M}
use Rattle.util_defs.specs.Power.{PowerOfTwo, power_of_two}
use Rattle.util_defs.specs.Round.{up}
use Rattle.util_defs.specs.Refusal.{Outcome, answered, refused, unless, Tells, holds, fails, None, Meets, Decided}
use Rattle.util_defs.specs.Helpers.{Larger, aligns_causes}
use Rattle.util_defs.proofs.Refusals.{known, tells_true, tells_eq, tells_lt, tells_not, tells_and, tells_or, meets, answered_means}
use Rattle.util_defs.proofs.Powers.{positive, tells_power}
use Rattle.util_defs.proofs.Helpers.{power, max_meets, max_answered}
use Rattle.layout_defs.specs.Layout.{Info, fixed, trailing, Layout, layout_causes, check_for}
use Rattle.layout_defs.specs.Extend.{member_align, place_of, extended, bad_packing, greatest_align, IsTrailing, is_trailing, MemberPastM, is_member_past_m, member_passes, place_causes, step_causes, extend_causes, extend_for, Extended}
use Rattle.util_defs.proofs.Tables.{decided_both, none_both, refused_first, accepted_first}
use Rattle.layout_defs.proofs.Layouts.{layout_decided}
use Rattle.layout_defs.proofs.Passes.{least_place}

-- the smaller of two powers is a power
pub min_power : {a b : ℕ} → PowerOfTwo a → PowerOfTwo b → PowerOfTwo (min a b)
min_power {a} {b} x y = go (leb a b) refl
  where
    go : (t : Bool) → leb a b ≡ t → PowerOfTwo (min a b)
    go true e = subst PowerOfTwo (sym (min-eq_left (leb-true a b e))) x
    go false e = subst PowerOfTwo (sym (min-eq_right (le_of_lt (leb-false a b e)))) y

-- the packing's test decides; a member's alignment is a power of two, and no larger than its own
pub tells_packing : (w packing : ℕ) → packing < 2 ^ w → Tells ((packing ≡ 0) ⊎ PowerOfTwo packing) (eqb packing 0 || power_of_two w packing)
tells_packing w packing h = tells_or (tells_eq packing 0) (tells_power w packing h)

pub packing_power : (w packing : ℕ) → packing < 2 ^ w → ((bad_packing w packing).means → ⊥) → (packing ≡ 0 → ⊥) → PowerOfTwo packing
packing_power w packing h n z = go (known (tells_packing w packing h) n)
  where
    go : (packing ≡ 0) ⊎ PowerOfTwo packing → PowerOfTwo packing
    go (inl e) = absurd (z e)
    go (inr q) = q

pub member_power : (w : ℕ) {a : ℕ} (packing : ℕ) → PowerOfTwo a → packing < 2 ^ w → ((bad_packing w packing).means → ⊥) → PowerOfTwo (member_align a packing)
member_power w {a} packing q h n = go (tells_eq packing 0)
  where
    go : {b : Bool} → Tells (packing ≡ 0) b → PowerOfTwo (cond b a (min a packing))
    go (holds e) = q
    go (fails z) = min_power q (packing_power w packing h n z)

pub member_le : (a packing : ℕ) → member_align a packing ≤ a
member_le a packing = go (eqb packing 0)
  where
    go : (b : Bool) → cond b a (min a packing) ≤ a
    go true = omega arith
    go false = min-le_left a packing

-- the tests of the step decide what they say
pub tells_trailing : (i : Info) → Tells (IsTrailing i) (is_trailing i)
tells_trailing (fixed s) = fails (λ x. x)
tells_trailing (trailing t) = holds tt

tells_passes9 : (w q : ℕ) (i : Info) → Tells (MemberPastM w q i) (is_member_past_m w q i)
tells_passes9 w q (fixed s) = tells_lt (M w) (q + s)
tells_passes9 w q (trailing t) = tells_or (tells_lt (M w) (q + t.offset)) (tells_lt (M w) (q + t.base))

step_decided : (w : ℕ) (l m : Layout) (packing : ℕ) → packing < 2 ^ w → Decided (step_causes w l m packing)
step_decided w l m packing h = (
  tells_not (tells_packing w packing h),
  λ _. (
    tells_or (tells_lt greatest_align _) (tells_or (tells_lt greatest_align _) (tells_lt greatest_align _)),
    λ _. (
      tells_trailing l.info,
      λ _. (
        tells_lt (M w) (place_of l m packing),
        λ _.
            (tells_passes9 w (place_of l m packing) m.info, λ _. tt),
      ),
    ),
  ),
)

-- 6 is of a member's own alignment, whatever the packing leaves of it
pub step_above : (w : ℕ) (l m : Layout) (packing : ℕ) → (bad_packing w packing).test ≡ false → greatest_align < m.align
    → refused 6 ≡ unless (step_causes w l m packing) (extended l m packing)
unfolding unless
step_above w l m packing e h = go (ltb greatest_align l.align) refl
  where
    go : (b : Bool) → ltb greatest_align l.align ≡ b → refused 6 ≡ unless (step_causes w l m packing) (extended l m packing)
    go true g = simp (e, g)
    go false g = simp (e, g, lt-ltb greatest_align m.align h)

pub extend_decided : (w : ℕ) (l m : Layout) (packing : ℕ) → l.align < 2 ^ w → m.align < 2 ^ w → packing < 2 ^ w → Decided (extend_causes w l m packing)
extend_decided w l m packing hl hm hp =
    decided_both (layout_causes w l) (layout_causes w m ++ step_causes w l m packing) (layout_decided w l hl)
    (λ _. decided_both (layout_causes w m) (step_causes w l m packing) (layout_decided w m hm) (λ _. step_decided w l m packing hp))

-- the larger of two powers
larger : {a b : ℕ} (w : ℕ) → PowerOfTwo a → PowerOfTwo b → a < 2 ^ w → b < 2 ^ w → Larger a b (max a b)
larger {a} {b} w p q ha hb = (answered_means (subst (λ (o : Outcome ℕ). Meets (aligns_causes w a b) (Larger a b) o) (max_answered w p q ha hb) (max_meets w a b ha hb))).1

-- the step means what it should, where nothing refuses it
fixed_extended : (w a s : ℕ) (mark over : Bool) (m : Layout) (packing : ℕ) → PowerOfTwo a → PowerOfTwo (member_align m.align packing)
    → a < 2 ^ w → m.align < 2 ^ w
    → Extended (record { align = a; info = fixed s; mark = mark; modifier = over }) m packing (extended (record { align = a; info = fixed s; mark = mark; modifier = over }) m packing)
unfolding extended
fixed_extended w a s mark over m packing p q ha hm =
    let b = member_align m.align packing in
    record {
      size = s;
      after = refl;
      place = up s b;
      least = least_place s b (positive q);
      align = larger w p q ha (omega (arith, member_le m.align packing));
      info = refl;
      mark = tells_and (tells_true mark) (tells_and (tells_true m.mark) (tells_eq (up s b) s));
      modifier = tells_or (tells_true over) (tells_true m.modifier);
    }

pub extended_is : (w : ℕ) (l m : Layout) (packing : ℕ) → l.align < 2 ^ w → m.align < 2 ^ w → packing < 2 ^ w
    → None (layout_causes w l) → None (layout_causes w m) → None (step_causes w l m packing) → Extended l m packing (extended l m packing)
extended_is w l m packing hl hm hp nl nm n = go l.info n.1.1.0
  where
    go : (i : Info) → (IsTrailing i → ⊥) → Extended (record { align = l.align; info = i; mark = l.mark; modifier = l.modifier }) m packing (extended (record { align = l.align; info = i; mark = l.mark; modifier = l.modifier }) m packing)
    go (fixed s) z =
        fixed_extended w l.align s l.mark l.modifier m packing (power w l.align hl nl.0)
        (member_power w packing (power w m.align hm nm.0) hp n.0) hl hm
    go (trailing t) z = absurd (z tt)

pub extend_meets : (w : ℕ) (l m : Layout) (packing : ℕ) → l.align < 2 ^ w → m.align < 2 ^ w → packing < 2 ^ w
    → Meets (extend_causes w l m packing) (Extended l m packing) (extend_for w l m packing)
unfolding extend_for
extend_meets w l m packing hl hm hp =
    meets (extend_causes w l m packing) (extended l m packing) (extend_decided w l m packing hl hm hp)
    (λ n.
    let x = none_both (layout_causes w l) (layout_causes w m ++ step_causes w l m packing) n in
    let y = none_both (layout_causes w m) (step_causes w l m packing) x.1 in
    extended_is w l m packing hl hm hp x.0 y.0 y.1)

-- the step by what the checks of the two layouts say
pub extend_own : {k : ℕ} (w : ℕ) (l m : Layout) (packing : ℕ) → check_for w l ≡ refused k → refused k ≡ extend_for w l m packing
unfolding extend_for check_for
extend_own w l m packing e = sym (refused_first (layout_causes w l) (layout_causes w m ++ step_causes w l m packing) tt (extended l m packing) e)

pub extend_member : {k : ℕ} (w : ℕ) (l m : Layout) (packing : ℕ) → check_for w l ≡ answered tt → check_for w m ≡ refused k → refused k ≡ extend_for w l m packing
unfolding extend_for check_for
extend_member w l m packing e f =
    sym (accepted_first (layout_causes w l) (layout_causes w m ++ step_causes w l m packing) tt (extended l m packing) e
    ∙ refused_first (layout_causes w m) (step_causes w l m packing) tt (extended l m packing) f)

pub extend_step : (w : ℕ) (l m : Layout) (packing : ℕ) → check_for w l ≡ answered tt → check_for w m ≡ answered tt
    → unless (step_causes w l m packing) (extended l m packing) ≡ extend_for w l m packing
unfolding extend_for check_for
extend_step w l m packing e f =
    sym (accepted_first (layout_causes w l) (layout_causes w m ++ step_causes w l m packing) tt (extended l m packing) e
    ∙ accepted_first (layout_causes w m) (step_causes w l m packing) tt (extended l m packing) f)

-- the step after a fixed layout: it is refused by 8, or the rest goes by the place
pub step_past : (w k s : ℕ) (mark over : Bool) (m : Layout) (packing : ℕ) → M w < up s (member_align m.align packing)
    → refused 8 ≡ unless (place_causes w (record { align = k; info = fixed s; mark = mark; modifier = over }) m packing) (extended (record { align = k; info = fixed s; mark = mark; modifier = over }) m packing)
unfolding unless
step_past w k s mark over m packing h = simp (lt-ltb (M w) (up s (member_align m.align packing)) h)

pub step_placed : (w k s : ℕ) (mark over : Bool) (m : Layout) (packing : ℕ) → up s (member_align m.align packing) ≤ M w
    → unless (member_passes w (up s (member_align m.align packing)) m.info ∷ []) (extended (record { align = k; info = fixed s; mark = mark; modifier = over }) m packing)
    ≡ unless (place_causes w (record { align = k; info = fixed s; mark = mark; modifier = over }) m packing) (extended (record { align = k; info = fixed s; mark = mark; modifier = over }) m packing)
unfolding unless
step_placed w k s mark over m packing h = simp (le-ltb (M w) (up s (member_align m.align packing)) h)
