-- Layouts at v bits, by w: what refuses one, and what is asked of one. Assumes nothing.
use mathlib.Core.Path.{◌≡◌, refl, sym, ap, ◌∙◌}
use mathlib.Core.Bool.{not}
use mathlib.Core.Logic.{inl, inr}
use Prim.Native.Nat.{ℕ, ◌%◌, ◌^◌, ◌≤◌, ◌<◌}
use native.Mathlib.Nat.{mod-eq_of_lt}
use native.Mathlib.Omega.{arith}
use lib.Pow.{pow_mono}
use Rattle.util_defs.specs.Refusal.{unless}
use Rattle.util_defs.proofs.Refusals.{agree, tells_as}
use Rattle.trailing_defs.specs.Size.{A, size_at}
use Rattle.layout_defs.specs.Layout.{Info, fixed, trailing, Layout, size_in, layout_causes, WordFits, FitsWidth, check_for}
use Rattle.padding_defs.specs.Pad.{static_for, DynamicPadding, dynamic_padding, dynamic_for}
use Rattle.padding_defs.proofs.Marks.{tells_dynamic}
use Rattle.widths_defs.proofs.Widths.{same_power, same_highest, low_tail_lem, Alike}
use Rattle.widths_defs.proofs.Sizes.{same_at}
use Rattle.widths_layouts_defs.specs.Low.{low_info, low_layout, InfoIn, LayoutIn}

-- v bits keep all of what they hold
pub low_info_lem : (v : ℕ) (i : Info) → InfoIn v i → low_info v i ≡ i
low_info_lem v (fixed s) h = ap fixed (mod-eq_of_lt h)
low_info_lem v (trailing t) h = ap trailing (low_tail_lem v t h)

pub low_layout_lem : (v : ℕ) (l : Layout) → LayoutIn v l → low_layout v l ≡ l
low_layout_lem v l h = simp (mod-eq_of_lt h.align, low_info_lem v l.info h.info)

-- what refuses a layout, and its size
pub layout_alike : (v w : ℕ) (l : Layout) → v ≤ w → l.align < 2 ^ v → Alike (layout_causes v l) (layout_causes w l)
layout_alike v w l h a = ((ap not (same_power v w l.align h a), refl), ((refl, refl), tt))

pub same_size : (v w : ℕ) (i : Info) (n : ℕ) → v ≤ w → InfoIn v i → size_in v i n ≡ size_in w i n
same_size v w (fixed s) n l h = refl
same_size v w (trailing t) n l h = same_at v w t n l h.word

-- `check` and `requires_static_padding`: the same
pub check_same : (v w : ℕ) (x : Layout) → v ≤ w → x.align < 2 ^ v → check_for v x ≡ check_for w x
unfolding check_for unless
check_same v w x l h = simp (same_power v w x.align l h)

pub static_same : (v w : ℕ) (x : Layout) → v ≤ w → x.align < 2 ^ v → static_for v x ≡ static_for w x
unfolding static_for unless
static_same v w x l h = simp (same_power v w x.align l h)

-- `requires_dynamic_padding`: the same, since a size at 0 above M at v differs from o
same_dynamic : (v w : ℕ) (i : Info) → v ≤ w → InfoIn v i → dynamic_padding v i ≡ dynamic_padding w i
same_dynamic v w (fixed s) l h = refl
same_dynamic v w (trailing t) l h = agree (tells_dynamic v (trailing t)) (tells_as there back (tells_dynamic w (trailing t)))
  where
    m : 2 ^ v ≤ 2 ^ w
    m = pow_mono l

    s : size_at v t 0 ≡ size_at w t 0
    s = same_at v w t 0 l h.word

    a : t.elem % A v t ≡ t.elem % A w t
    a = ap (λ (x : ℕ). t.elem % x) (same_highest v w t.word l h.word)

    there : DynamicPadding w (trailing t) → DynamicPadding v (trailing t)
    there (inl x) = inl (λ g. x (omega (arith, g, s, m)))
    there (inr (inl x)) = inr (inl (λ e. x (sym s ∙ e)))
    there (inr (inr x)) = inr (inr (λ e. x (sym a ∙ e)))

    back : DynamicPadding v (trailing t) → DynamicPadding w (trailing t)
    back (inl x) = inr (inl (λ e. x (omega (arith, s, e, h.offset))))
    back (inr (inl x)) = inr (inl (λ e. x (s ∙ e)))
    back (inr (inr x)) = inr (inr (λ e. x (a ∙ e)))

pub dynamic_same : (v w : ℕ) (x : Layout) → v ≤ w → LayoutIn v x → dynamic_for v x ≡ dynamic_for w x
unfolding dynamic_for unless
dynamic_same v w x l h = simp (same_power v w x.align l h.align, same_dynamic v w x.info l h.info)

-- a layout whose numbers v bits hold fits the width
pub fits_width : (v : ℕ) (l : Layout) → LayoutIn v l → FitsWidth v l
fits_width v l h = record { align = h.align; word = go l.info h.info }
  where
    go : (i : Info) → InfoIn v i → WordFits v i
    go (fixed s) g = tt
    go (trailing t) g = g.word
