-- The member step at v bits, by w. Assumes nothing.
use mathlib.Core.Path.{◌≡◌, refl, sym, ap, ap₂, ◌∙◌, subst}
use mathlib.Core.Bool.{Bool, true, false, cond, not, ◌||◌}
use mathlib.Core.List.{[], ◌∷◌, ◌++◌}
use mathlib.Core.Logic.{inl, inr}
use Prim.Native.Nat.{ℕ, ◌+◌, ◌-◌, ◌^◌, ◌≤◌, ◌<◌, max}
use native.Mathlib.Omega.{arith}
use native.Mathlib.Nat.{max-eq_left, max-eq_right, le_of_lt}
use lib.Pow.{pow_pos, pow_mono}
use lib.Dec.{eqb, leb}
use borrow.Author.Tests.{lt-leb, le-leb, leb-true, leb-false}
use Rattle.util_defs.specs.Width.{M}
use Rattle.util_defs.specs.Refusal.{answered, refused, unless, Tells, holds, fails}
use Rattle.util_defs.proofs.Refusals.{told_true, told_false, tells_le, tells_lt, tells_or, tells_and, tells_not, tells_as}
use Rattle.util_defs.proofs.Tables.{answer_is, accepted_none, none_both}
use Rattle.util_defs.proofs.Powers.{positive, divides, double}
use Rattle.util_defs.proofs.Rounding.{up_least}
use Rattle.util_defs.proofs.Helpers.{power}
use Rattle.layout_defs.specs.Layout.{Info, fixed, trailing, Layout, layout_causes}
use Rattle.layout_defs.specs.Extend.{member_align, preceding_size, place_of, placed_at, extended, bad_packing, greatest_align, above_greatest, after_trailing, rounding_passes, MemberPastM, is_member_past_m, member_passes, step_causes, extend_causes, extend_for}
use Rattle.layout_defs.proofs.Layouts.{layout_decided}
use Rattle.layout_defs.proofs.Steps.{tells_packing, tells_trailing, member_power, member_le, extend_decided}
use Rattle.widths_defs.specs.Low.{mapped}
use Rattle.widths_layouts_defs.specs.Low.{low_layout, InfoIn, LayoutIn}
use Rattle.widths_layouts_defs.specs.Within.{start_of, info_within, step_within}
use Rattle.widths_defs.proofs.Widths.{held, same_power, mapped_same, tables}
use Rattle.widths_layouts_defs.proofs.Layouts.{low_layout_lem, layout_alike}

-- the place is what the step added
pub place_back : (q : ℕ) (i : Info) → start_of (placed_at q i) - start_of i ≡ q
place_back q (fixed s) = omega arith
place_back q (trailing t) = omega arith

-- 9 is what stands at the place and is not within M
tells_within : (v q : ℕ) (i : Info) → Tells (MemberPastM v q i → ⊥) (info_within (M v) (placed_at q i))
tells_within v q (fixed s) = tells_as (λ l h. omega arith) (λ n. omega (arith, n)) (tells_le (q + s) (M v))
tells_within v q (trailing t) =
    tells_as (λ l h. both l h) neither (tells_and (tells_le (q + t.offset) (M v)) (tells_le (q + t.base) (M v)))
  where
    neither : (MemberPastM v q (trailing t) → ⊥) → (q + t.offset ≤ M v) × (q + t.base ≤ M v)
    neither n =
        let a : M v < q + t.offset → ⊥ = λ x. n (inl x) in
        let b : M v < q + t.base → ⊥ = λ x. n (inr x) in
        (omega arith, omega arith)

    both : (q + t.offset ≤ M v) × (q + t.base ≤ M v) → MemberPastM v q (trailing t) → ⊥
    both l (inl x) = omega (arith, l.0)
    both l (inr x) = omega (arith, l.1)

tells_is_member_past_m : (v q : ℕ) (i : Info) → Tells (MemberPastM v q i) (is_member_past_m v q i)
tells_is_member_past_m v q (fixed s) = tells_lt (M v) (q + s)
tells_is_member_past_m v q (trailing t) = tells_or (tells_lt (M v) (q + t.offset)) (tells_lt (M v) (q + t.base))

-- what passes at w passes at v; and at a place of 2 ^ v, below M at w, nothing passes there
passes_fewer : (v w q : ℕ) (i : Info) → v ≤ w → MemberPastM w q i → MemberPastM v q i
passes_fewer v w q (fixed s) l h = let m : 2 ^ v ≤ 2 ^ w = pow_mono l in omega arith
passes_fewer v w q (trailing t) l (inl h) = let m : 2 ^ v ≤ 2 ^ w = pow_mono l in inl (omega arith)
passes_fewer v w q (trailing t) l (inr h) = let m : 2 ^ v ≤ 2 ^ w = pow_mono l in inr (omega arith)

none_past : (v w q : ℕ) (i : Info) → InfoIn v i → M v < q → q ≤ 2 ^ v → q ≤ M w → MemberPastM w q i → ⊥
none_past v w q i h p b n x =
    let d : 2 ^ v + 2 ^ v ≤ 2 ^ w = double w (record { exponent = v; power = refl }) (omega (arith, pow_pos v, pow_pos w)) in
    go i h x d
  where
    go : (i : Info) → InfoIn v i → MemberPastM w q i → 2 ^ v + 2 ^ v ≤ 2 ^ w → ⊥
    go (fixed s) h x d = omega (arith, pow_pos w)
    go (trailing t) h (inl x) d = omega (arith, h.offset, pow_pos w)
    go (trailing t) h (inr x) d = omega (arith, h.base, pow_pos w)

-- the last two tests of the step: 8 and 9
places : (v w q : ℕ) (i : Info) (r : Layout) → v ≤ w → InfoIn v i → q ≤ 2 ^ v → r.info ≡ placed_at q i
    → unless (rounding_passes v q ∷ member_passes v q i ∷ []) r ≡ step_within (M v) i (unless (rounding_passes w q ∷ member_passes w q i ∷ []) r)
unfolding unless
places v w q i r l h b e = go (tells_lt (M v) q) (tells_lt (M w) q) (tells_is_member_past_m v q i) (tells_is_member_past_m w q i)
  where
    placed : (a b : Bool) → leb q (M v) ≡ a → info_within (M v) r.info ≡ b → step_within (M v) i (answered r) ≡ cond a (cond b (answered r) (refused 9)) (refused 8)
    placed a b f g =
        ap₂ (λ (x y : Bool). cond x (cond y (answered r) (refused 9)) (refused 8)) (ap (λ (z : Info). leb (start_of z - start_of i) (M v)) e ∙ ap (λ (z : ℕ). leb z (M v)) (place_back q i) ∙ f) g

    go : {a c d f : Bool} → Tells (M v < q) a → Tells (M w < q) c → Tells (MemberPastM v q i) d → Tells (MemberPastM w q i) f
        → cond a (refused 8) (cond d (refused 9) (answered r)) ≡ step_within (M v) i (cond c (refused 8) (cond f (refused 9) (answered r)))
    go (holds x) (holds y) z u = refl
    go (holds x) (fails y) z (holds u) = absurd (none_past v w q i h x b (omega (arith, y)) u)
    go (holds x) (fails y) z (fails u) = sym (placed false (info_within (M v) r.info) (lt-leb q (M v) x) refl)
    go (fails x) (holds y) z u = let m : 2 ^ v ≤ 2 ^ w = pow_mono l in absurd (x (omega (arith, y)))
    go (fails x) (fails y) (holds z) (holds u) = refl
    go (fails x) (fails y) (holds z) (fails u) = sym (placed true false (le-leb q (M v) (omega (arith, x))) (ap (info_within (M v)) e ∙ told_false (tells_within v q i) (λ n. n z)))
    go (fails x) (fails y) (fails z) (holds u) = absurd (z (passes_fewer v w q i l u))
    go (fails x) (fails y) (fails z) (fails u) = sym (placed true true (le-leb q (M v) (omega (arith, x))) (ap (info_within (M v)) e ∙ told_true (tells_within v q i) z))

preceding_in : (v : ℕ) (i : Info) → InfoIn v i → preceding_size i < 2 ^ v
preceding_in v (fixed s) h = h
preceding_in v (trailing t) h = pow_pos v

-- `extend`: 8 where the place passes M at v, 9 where what stands there does
pub extend_narrows : (v w : ℕ) (l m : Layout) (packing : ℕ) → v ≤ w → LayoutIn v l → LayoutIn v m → packing < 2 ^ v
    → extend_for v l m packing ≡ step_within (M v) m.info (extend_for w l m packing)
unfolding extend_for extended
extend_narrows v w l m packing h hl hm hp =
    let N = step_within (M v) m.info in
    let r = extended l m packing in
    let q = place_of l m packing in
    let al = held v w h hl.align in
    let am = held v w h hm.align in
    let pk = held v w h hp in
    tables N (λ k. refl) (layout_causes v l) (layout_causes w l) (layout_causes v m ++ step_causes v l m packing) (layout_causes w m ++ step_causes w l m packing) r r
    (layout_alike v w l h hl.align) (layout_decided w l al)
    (λ _. tables N (λ k. refl) (layout_causes v m) (layout_causes w m) (step_causes v l m packing) (step_causes w l m packing) r r
    (layout_alike v w m h hm.align) (layout_decided w m am)
    (λ nm. tables N (λ k. refl)
    (bad_packing v packing ∷ above_greatest l.align m.align packing ∷ after_trailing l.info ∷ [])
    (bad_packing w packing ∷ above_greatest l.align m.align packing ∷ after_trailing l.info ∷ [])
    (rounding_passes v q ∷ member_passes v q m.info ∷ []) (rounding_passes w q ∷ member_passes w q m.info ∷ []) r r
    ((ap (λ (b : Bool). not (eqb packing 0 || b)) (same_power v w packing h hp), refl), ((refl, refl), ((refl, refl), tt)))
    (tells_not (tells_packing w packing pk), λ _. (tells_or (tells_lt greatest_align _) (tells_or (tells_lt greatest_align _) (tells_lt greatest_align _)), λ _. (tells_trailing l.info, λ _. tt)))
    (λ n.
    let a = member_align m.align packing in
    let pa = member_power w packing (power w m.align am nm.0) pk n.0 in
    let ha : a < 2 ^ v = omega (arith, member_le m.align packing, hm.align) in
    let s = preceding_size l.info in
    places v w q m.info r h hm.info (up_least s a (2 ^ v) (positive pa) (divides v pa ha) (omega (arith, preceding_in v l.info hl.info))) refl)))

-- and what it gives is held
larger_in : (a b n : ℕ) → a < n → b < n → max a b < n
larger_in a b n x y = go (leb a b) refl
  where
    go : (t : Bool) → leb a b ≡ t → max a b < n
    go true e = omega (arith, max-eq_right (leb-true a b e))
    go false e = omega (arith, max-eq_left (le_of_lt (leb-false a b e)))

placed_in : (v q : ℕ) (i : Info) → InfoIn v i → (MemberPastM v q i → ⊥) → InfoIn v (placed_at q i)
placed_in v q (fixed s) h n = omega (arith, n, pow_pos v)
placed_in v q (trailing t) h n =
    let a : M v < q + t.offset → ⊥ = λ x. n (inl x) in
    let b : M v < q + t.base → ⊥ = λ x. n (inr x) in
    record { offset = omega (arith, pow_pos v); elem = h.elem; base = omega (arith, pow_pos v); word = h.word }

pub extend_in : (v : ℕ) (l m : Layout) (packing : ℕ) (r : Layout) → LayoutIn v l → LayoutIn v m → packing < 2 ^ v → extend_for v l m packing ≡ answered r → LayoutIn v r
unfolding extend_for extended
extend_in v l m packing r hl hm hp e =
    let n = accepted_none (extend_causes v l m packing) (extended l m packing) (extend_decided v l m packing hl.align hm.align hp) e in
    let x = (none_both (layout_causes v m) (step_causes v l m packing) (none_both (layout_causes v l) (layout_causes v m ++ step_causes v l m packing) n).1).1 in
    subst (LayoutIn v) (sym (answer_is (extend_causes v l m packing) (extended l m packing) e))
    (record {
      align = larger_in l.align (member_align m.align packing) (2 ^ v) hl.align (omega (arith, member_le m.align packing, hm.align));
      info = placed_in v (place_of l m packing) m.info hm.info x.1.1.1.1.0;
    })

pub extend_low : (v w : ℕ) (l m : Layout) (packing : ℕ) → v ≤ w → LayoutIn v l → LayoutIn v m → packing < 2 ^ v
    → extend_for v l m packing ≡ mapped (low_layout v) (step_within (M v) m.info (extend_for w l m packing))
extend_low v w l m packing h hl hm hp =
    mapped_same (low_layout v) (extend_for v l m packing) (λ r e. low_layout_lem v r (extend_in v l m packing r hl hm hp e))
    ∙ ap (mapped (low_layout v)) (extend_narrows v w l m packing h hl hm hp)

-- the start of the whole is no lower than the member's: their difference is the place
pub start_ge : {r : Layout} (w : ℕ) (l m : Layout) (packing : ℕ) → extend_for w l m packing ≡ answered r → start_of m.info ≤ start_of r.info
unfolding extend_for extended
start_ge {r} w l m packing e =
    subst (λ (z : Layout). start_of m.info ≤ start_of z.info) (sym (answer_is (extend_causes w l m packing) (extended l m packing) e)) (go (place_of l m packing) m.info)
  where
    go : (q : ℕ) (i : Info) → start_of i ≤ start_of (placed_at q i)
    go q (fixed s) = omega arith
    go q (trailing t) = omega arith
