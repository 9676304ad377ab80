-- The count of an exact size at v bits, by w. Assumes nothing.
use mathlib.Core.Path.{◌≡◌, refl, ap, ap₂, ◌∙◌, subst}
use mathlib.Core.Bool.{Bool, cond, not, ◌&&◌}
use mathlib.Core.List.{[], ◌∷◌}
use Prim.Native.Nat.{ℕ, ◌+◌, ◌*◌, ◌≤◌, ◌<◌}
use native.Mathlib.Nat.{mod-eq_of_lt, le-mul_of_pos_right}
use native.Mathlib.Omega.{arith}
use lib.Pow.{pow_pos}
use borrow.Author.Tests.{le-leb}
use Rattle.util_defs.specs.Width.{M}
use Rattle.util_defs.specs.Refusal.{Outcome, answered, refused, unless, Meets}
use Rattle.util_defs.proofs.Refusals.{answered_means}
use Rattle.trailing_defs.specs.Size.{A, p}
use Rattle.trailing_defs.proofs.Sizes.{size_ge}
use Rattle.layout_defs.specs.Layout.{Info, fixed, trailing, Layout, no_word, layout_causes}
use Rattle.layout_defs.specs.Extend.{is_trailing}
use Rattle.layout_defs.proofs.Layouts.{layout_decided}
use Rattle.cast_defs.specs.Cast.{prefix, count_in, Grant, cast_for}
use Rattle.cast_defs.specs.Exact.{split_is, ExactIn, no_exact, exact_causes, exact_for}
use Rattle.cast_defs.proofs.Grants.{align_pos}
use Rattle.cast_defs.proofs.Exact.{exact_meets}
use Rattle.widths_defs.specs.Low.{mapped, low}
use Rattle.widths_defs.proofs.Widths.{held, mapped_same, tables}
use Rattle.widths_layouts_defs.specs.Low.{LayoutIn}
use Rattle.widths_layouts_defs.proofs.Layouts.{layout_alike}
use Rattle.widths_casts_defs.proofs.Casting.{same_count, cast_same}

-- `metadata_for_exact_size`: the same
pub exact_same : (v w : ℕ) (l : Layout) (s : ℕ) → v ≤ w → LayoutIn v l → s ≤ M v → exact_for v l s ≡ exact_for w l s
unfolding exact_for unless
exact_same v w l s h hl hs =
    let c : cast_for v l prefix 0 s ≡ cast_for w l prefix 0 s = cast_same v w l prefix 0 s h hl (pow_pos v) ∙ ap (λ (b : Bool). cast_for w l prefix (cond b 0 (M w)) s) (le-leb (0 + s) (M v) (omega arith)) in
    let N : Outcome ℕ → Outcome ℕ = λ o. o in
    tables N (λ k. refl) (layout_causes v l) (layout_causes w l) (no_exact v l s ∷ []) (no_exact w l s ∷ []) (count_in v l.info s) (count_in w l.info s)
    (layout_alike v w l h hl.align) (layout_decided w l (held v w h hl.align))
    (λ _. ap₂ (λ (o : Outcome Grant) (n : ℕ). cond (not (is_trailing l.info && split_is s o)) (refused 14) (answered n)) c (same_count v w l.info s h hl.info))

-- and the count is held
exact_le : (v : ℕ) (i : Info) (s n : ℕ) → 0 < v → ((no_word i).means → ⊥) → ExactIn v i s n → n ≤ M v
exact_le v (fixed z) s n pos nw x = absurd x
exact_le v (trailing t) s n pos nw x =
    omega (arith, x.exists, size_ge t.base (A v t) (p v t) (n * t.elem) (align_pos v t pos nw), le-mul_of_pos_right n x.elem)

pub exact_low : (v w : ℕ) (l : Layout) (s : ℕ) → v ≤ w → 0 < v → LayoutIn v l → s ≤ M v → exact_for v l s ≡ mapped (low v) (exact_for w l s)
exact_low v w l s h pos hl hs =
    mapped_same (low v) (exact_for v l s) (λ n e.
    let q = answered_means (subst (λ (o : Outcome ℕ). Meets (exact_causes v l s) (ExactIn v l.info s) o) e (exact_meets v l s hl.align pos)) in
    mod-eq_of_lt (omega (arith, exact_le v l.info s n pos q.0.1.0 q.1, pow_pos v)))
    ∙ ap (mapped (low v)) (exact_same v w l s h hl hs)
