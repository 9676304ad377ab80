-- Casts at v bits, by w. Assumes nothing.
use mathlib.Core.Path.{◌≡◌, refl, sym, ap, ap₂, ◌∙◌, subst}
use mathlib.Core.Bool.{Bool, cond, not}
use mathlib.Core.List.{[], ◌∷◌}
use mathlib.Core.Logic.{◌⊎◌, inl, inr}
use Prim.Native.Nat.{ℕ, ◌+◌, ◌-◌, ◌*◌, ◌%◌, ◌^◌, ◌≤◌, ◌<◌}
use native.Mathlib.Nat.{mod-eq_of_lt, le-mul_of_pos_right}
use native.Mathlib.Omega.{arith}
use lib.Pow.{pow_pos, pow_mono}
use lib.Dec.{eqb, ltb}
use Rattle.util_defs.specs.Width.{M}
use Rattle.util_defs.specs.Refusal.{Outcome, answered, refused, unless, Tells, holds, fails, None, First, Meets, answers, refuses}
use Rattle.util_defs.proofs.Refusals.{answered_means, no_number, agree, tells_le, tells_lt, tells_as}
use Rattle.util_defs.proofs.Tables.{none_both, first_both}
use Rattle.trailing_defs.specs.Size.{A, p}
use Rattle.trailing_defs.specs.Count.{count_within}
use Rattle.trailing_defs.proofs.Sizes.{size_ge}
use Rattle.layout_defs.specs.Layout.{Info, fixed, trailing, Layout, IsCount, size_in, no_word, layout_causes}
use Rattle.layout_defs.proofs.Layouts.{layout_decided}
use Rattle.cast_defs.specs.Cast.{Side, prefix, suffix, tested_address, split_at, count_in, elem_zero, address_passes, not_aligned, too_small, bytes_causes, cast_causes, Grant, greatest_grant, cast_for, GrantMeans}
use Rattle.cast_defs.proofs.Grants.{align_pos, elem_decided, cast_meets}
use Rattle.widths_defs.specs.Low.{mapped}
use Rattle.widths_layouts_defs.specs.Low.{InfoIn, LayoutIn}
use Rattle.widths_casts_defs.specs.Low.{low_grant, GrantIn}
use Rattle.widths_casts_defs.specs.Within.{far_address}
use Rattle.widths_defs.proofs.Widths.{held, same_highest, mapped_same, tables}
use Rattle.widths_layouts_defs.proofs.Layouts.{layout_alike, same_size}

-- counts are the same at both widths
pub same_count : (v w : ℕ) (i : Info) (L : ℕ) → v ≤ w → InfoIn v i → count_in v i L ≡ count_in w i L
unfolding count_within
same_count v w (fixed s) L l h = refl
same_count v w (trailing t) L l h = simp (same_highest v w t.word l h.word)

same_grant : (v w : ℕ) (i : Info) (side : Side) (len : ℕ) → v ≤ w → InfoIn v i → greatest_grant v i side len ≡ greatest_grant w i side len
same_grant v w i side len l h =
    ap₂ (λ (n z : ℕ). record { count = n; split = split_at side len z }) (same_count v w i len l h)
    (ap (size_in v i) (same_count v w i len l h) ∙ same_size v w i (count_in w i len) l h)

-- the far address passes M at w where the address does at v, and else is the address
far_tells : (v w addr len : ℕ) → v ≤ w → addr < 2 ^ v → Tells (M v < addr + len) (ltb (M w) (far_address v w addr len + len))
far_tells v w addr len l h = go (tells_le (addr + len) (M v))
  where
    m : 2 ^ v ≤ 2 ^ w
    m = pow_mono l

    go : {b : Bool} → Tells (addr + len ≤ M v) b → Tells (M v < addr + len) (ltb (M w) (cond b addr (M w) + len))
    go (holds x) = tells_as (λ y. omega (arith, y, m)) (λ y. omega (arith, y)) (tells_lt (M w) (addr + len))
    go (fails n) = tells_as (λ y. omega (arith, n)) (λ y. omega (arith, n, h)) (tells_lt (M w) (M w + len))

far_same : (v w addr len : ℕ) → v ≤ w → addr < 2 ^ v → (M w < far_address v w addr len + len → ⊥) → far_address v w addr len ≡ addr
far_same v w addr len l h = go (tells_le (addr + len) (M v))
  where
    go : {b : Bool} → Tells (addr + len ≤ M v) b → (M w < cond b addr (M w) + len → ⊥) → cond b addr (M w) ≡ addr
    go (holds x) n = refl
    go (fails x) n = absurd (n (omega (arith, x)))

-- the last two tests of a cast: 12 and 13
abbrev fitting : Side → ℕ → ℕ → ℕ → ℕ → Grant → Outcome Grant
fitting side a len addr z g = cond (not (eqb (tested_address side addr len % a) 0)) (refused 12) (cond (ltb len z) (refused 13) (answered g))

-- the cast: what 11 refuses at v it refuses at w of the far address, in its turn
pub cast_same : (v w : ℕ) (l : Layout) (side : Side) (addr len : ℕ) → v ≤ w → LayoutIn v l → addr < 2 ^ v
    → cast_for v l side addr len ≡ cast_for w l side (far_address v w addr len) len
unfolding cast_for unless
cast_same v w l side addr len h hl ha =
    let i = l.info in
    let far = far_address v w addr len in
    let N : Outcome Grant → Outcome Grant = λ o. o in
    let x = greatest_grant v i side len in
    let y = greatest_grant w i side len in
    tables N (λ k. refl) (layout_causes v l) (layout_causes w l) (bytes_causes v l side addr len) (bytes_causes w l side far len) x y
    (layout_alike v w l h hl.align) (layout_decided w l (held v w h hl.align))
    (λ _. tables N (λ k. refl) (elem_zero i ∷ address_passes v addr len ∷ []) (elem_zero i ∷ address_passes w far len ∷ [])
    (not_aligned l.align (tested_address side addr len) ∷ too_small v i len ∷ []) (not_aligned l.align (tested_address side far len) ∷ too_small w i len ∷ []) x y
    ((refl, refl), ((agree (tells_lt (M v) (addr + len)) (far_tells v w addr len h ha), refl), tt)) (elem_decided i, λ _. (tells_lt (M w) (far + len), λ _. tt))
    (λ n. ap₂ (fitting side l.align len addr) (same_size v w i 0 h hl.info) (same_grant v w i side len h hl.info)
    ∙ ap (λ (z : ℕ). fitting side l.align len z (size_in w i 0) y) (sym (far_same v w addr len h ha n.1.0))))

-- it refuses whatever is lent there, and in its turn: where the layout is accepted and its elements have a size, by 11. So it does
-- with a length that passes M by itself, at any address
pub passing : (v : ℕ) (l : Layout) (side : Side) (addr len : ℕ) → l.align < 2 ^ v → 0 < v → M v < addr + len → None (layout_causes v l) → ((elem_zero l.info).means → ⊥)
    → cast_for v l side addr len ≡ refused 11
passing v l side addr len h pos past none some = go (cast_for v l side addr len) (cast_meets v l side addr len h pos)
  where
    number : {k : ℕ} → First (layout_causes v l) k ⊎ (None (layout_causes v l) × First (bytes_causes v l side addr len) k) → k ≡ 11
    number {k} (inl f) = absurd (no_number (layout_causes v l) k none f)
    number (inr (n, inl (x, e))) = absurd (some x)
    number (inr (n, inr (x, inl (y, e)))) = omega arith
    number (inr (n, inr (x, inr (y, f)))) = absurd (y past)

    go : (o : Outcome Grant) → Meets (cast_causes v l side addr len) (GrantMeans v l.info side len) o → o ≡ refused 11
    go (answered g) (answers n x) = absurd ((none_both (layout_causes v l) (bytes_causes v l side addr len) n).1.1.0 past)
    go (refused k) (refuses f) = ap refused (number (first_both (layout_causes v l) (bytes_causes v l side addr len) k f))

-- and what is granted is held
pub low_grant_lem : (v : ℕ) (g : Grant) → GrantIn v g → low_grant v g ≡ g
low_grant_lem v g h = simp (mod-eq_of_lt h.count, mod-eq_of_lt h.split)

count_le : (v : ℕ) (i : Info) (n L : ℕ) → 0 < v → ((no_word i).means → ⊥) → ((elem_zero i).means → ⊥) → IsCount i n → size_in v i n ≤ L → n ≤ L
count_le v (fixed s) n L pos nw ne c f = omega arith
count_le v (trailing t) n L pos nw ne c f =
    let h : 0 < t.elem = omega (arith, ne) in
    omega (arith, size_ge t.base (A v t) (p v t) (n * t.elem) (align_pos v t pos nw), le-mul_of_pos_right n h)

split_le : (side : Side) (len size : ℕ) → size ≤ len → split_at side len size ≤ len
split_le prefix len size h = h
split_le suffix len size h = omega arith

cast_in : (v : ℕ) (l : Layout) (side : Side) (addr len : ℕ) (g : Grant) → l.align < 2 ^ v → 0 < v → cast_for v l side addr len ≡ answered g → GrantIn v g
cast_in v l side addr len g h pos e =
    let q = answered_means (subst (λ (o : Outcome Grant). Meets (cast_causes v l side addr len) (GrantMeans v l.info side len) o) e (cast_meets v l side addr len h pos)) in
    let n = none_both (layout_causes v l) (bytes_causes v l side addr len) q.0 in
    let z : addr + len < 2 ^ v = omega (arith, n.1.1.0, pow_pos v) in
    let f = q.1.greatest.fits in
    record {
      count = omega (arith, count_le v l.info g.count len pos n.0.1.0 n.1.0 q.1.greatest.count f);
      split = omega (arith, q.1.split, split_le side len (size_in v l.info g.count) f);
    }

pub cast_low : (v w : ℕ) (l : Layout) (side : Side) (addr len : ℕ) → v ≤ w → 0 < v → LayoutIn v l → addr < 2 ^ v
    → cast_for v l side addr len ≡ mapped (low_grant v) (cast_for w l side (far_address v w addr len) len)
cast_low v w l side addr len h pos hl ha =
    mapped_same (low_grant v) (cast_for v l side addr len) (λ g e. low_grant_lem v g (cast_in v l side addr len g hl.align pos e))
    ∙ ap (mapped (low_grant v)) (cast_same v w l side addr len h hl ha)
