-- Closing padding at v bits, by w. Assumes nothing.
use mathlib.Core.Path.{◌≡◌, refl, ap, ◌∙◌}
use mathlib.Core.Bool.{Bool, cond}
use mathlib.Core.List.{[], ◌∷◌}
use Prim.Native.Nat.{ℕ, ◌-◌, ◌^◌, ◌≤◌, ◌<◌}
use native.Mathlib.Nat.{mod-lt}
use native.Mathlib.Omega.{arith}
use lib.Pow.{pow_pos, pow_mono}
use lib.Dec.{ltb}
use borrow.Author.Tests.{lt-leb, le-leb}
use Rattle.util_defs.specs.Width.{M}
use Rattle.util_defs.specs.Power.{PowerOfTwo}
use Rattle.util_defs.specs.Round.{up, down}
use Rattle.util_defs.specs.Refusal.{answered, refused, unless, Tells, holds, fails, None}
use Rattle.util_defs.proofs.Tables.{none_both}
use Rattle.util_defs.proofs.Refusals.{tells_lt}
use Rattle.util_defs.proofs.Powers.{positive, divides, double}
use Rattle.util_defs.proofs.Rounding.{down_le, down_greatest}
use Rattle.util_defs.proofs.Helpers.{power}
use Rattle.trailing_defs.specs.Size.{A}
use Rattle.layout_defs.specs.Layout.{Info, fixed, trailing, Layout, no_word, layout_causes}
use Rattle.layout_defs.specs.Extend.{rounding_passes}
use Rattle.layout_defs.proofs.Layouts.{layout_decided}
use Rattle.padding_defs.specs.Pad.{fixed_part, coarser, finer, padded_tail, padded_info, padded_mark, padded, padding_needs, pad_causes, pad_for}
use Rattle.padding_defs.proofs.Padding.{pad_decided}
use Rattle.widths_defs.specs.Low.{mapped, TailIn}
use Rattle.widths_layouts_defs.specs.Low.{low_layout, InfoIn, LayoutIn}
use Rattle.widths_layouts_defs.specs.Within.{closed_within, pad_within}
use Rattle.widths_defs.proofs.Widths.{held, same_highest, unless_same, tables, limit}
use Rattle.widths_layouts_defs.proofs.Layouts.{low_layout_lem, layout_alike}

-- a number passes M where what is left of it, rounded down to a power that v bits hold, does
down_passes : {a : ℕ} (v n : ℕ) → PowerOfTwo a → a < 2 ^ v → M v < n → M v < down n a
down_passes {a} v n q h l = omega (arith, pow_pos v, down_greatest n a (2 ^ v) (positive q) (divides v q h) (omega (arith, pow_pos v)))

closed : (v w a : ℕ) (i : Info) (mark over : Bool) → v ≤ w → PowerOfTwo a → a < 2 ^ v → InfoIn v i
    → unless (rounding_passes v (padding_needs v a i) ∷ []) (record { align = a; info = padded_info v a i; mark = mark; modifier = over })
    ≡ pad_within (M v) (unless (rounding_passes w (padding_needs w a i) ∷ []) (record { align = a; info = padded_info w a i; mark = mark; modifier = over }))
unfolding unless padded_tail
closed v w a (fixed s) mark over l q ha h =
    let m : 2 ^ v ≤ 2 ^ w = pow_mono l in
    let z = up s a in
    limit 8 (record { align = a; info = fixed z; mark = mark; modifier = over }) (λ (r : Layout). closed_within (M v) r.info) (tells_lt (M v) z) (tells_lt (M w) z) (λ x. omega (arith, x)) (λ x. lt-leb z (M v) x) (λ x. le-leb z (M v) (omega (arith, x)))
closed v w a (trailing t) mark over l q ha h = simp (same_highest v w t.word l h.word) (go (tells_lt (A w t) a))
  where
    m : 2 ^ v ≤ 2 ^ w
    m = pow_mono l

    f : ℕ
    f = fixed_part w t

    z : ℕ
    z = up t.base a

    go : {b : Bool} → Tells (A w t < a) b
        → cond (ltb (M v) (cond b f z)) (refused 8) (answered (record { align = a; info = trailing (cond b (coarser w a t) (finer a t)); mark = mark; modifier = over }))
        ≡ pad_within (M v) (cond (ltb (M w) (cond b f z)) (refused 8) (answered (record { align = a; info = trailing (cond b (coarser w a t) (finer a t)); mark = mark; modifier = over })))
    go (holds y) =
        limit 8 (record { align = a; info = trailing (coarser w a t); mark = mark; modifier = over }) (λ (r : Layout). closed_within (M v) r.info) (tells_lt (M v) f) (tells_lt (M w) f) (λ x. omega (arith, x, m))
        (λ x. lt-leb (down f a) (M v) (down_passes v f q ha x)) (λ x. le-leb (down f a) (M v) (omega (arith, x, down_le f a)))
    go (fails y) =
        limit 8 (record { align = a; info = trailing (finer a t); mark = mark; modifier = over }) (λ (r : Layout). closed_within (M v) r.info) (tells_lt (M v) z) (tells_lt (M w) z) (λ x. omega (arith, x, m))
        (λ x. lt-leb z (M v) x) (λ x. le-leb z (M v) (omega (arith, x)))

-- `pad_to_align`: 8 where the new size or base passes M at v
pub pad_narrows : (v w : ℕ) (l : Layout) → v ≤ w → LayoutIn v l → pad_for v l ≡ pad_within (M v) (pad_for w l)
unfolding pad_for padded
pad_narrows v w l h hl =
    let i = l.info in
    let aw = held v w h hl.align in
    tables (pad_within (M v)) (λ k. refl) (layout_causes v l) (layout_causes w l)
    (rounding_passes v (padding_needs v l.align i) ∷ []) (rounding_passes w (padding_needs w l.align i) ∷ []) (padded v l) (padded w l)
    (layout_alike v w l h hl.align) (layout_decided w l aw)
    (λ n. closed v w l.align i (padded_mark l.align i l.mark) l.modifier h (power w l.align aw n.0) hl.align hl.info)

-- and what it gives is held
padded_in : (v : ℕ) (l : Layout) → LayoutIn v l → None (pad_causes v l) → LayoutIn v (padded v l)
unfolding padded padded_tail
padded_in v l h n = record { align = h.align; info = go l.info h.info x.0.1.0 x.1.0 }
  where
    x : None (layout_causes v l) × None (rounding_passes v (padding_needs v l.align l.info) ∷ [])
    x = none_both (layout_causes v l) (rounding_passes v (padding_needs v l.align l.info) ∷ []) n

    a : PowerOfTwo l.align
    a = power v l.align h.align x.0.0

    go : (i : Info) → InfoIn v i → ((no_word i).means → ⊥) → (M v < padding_needs v l.align i → ⊥) → InfoIn v (padded_info v l.align i)
    go (fixed s) g w m = omega (arith, m, pow_pos v)
    go (trailing t) g w m = tail (tells_lt (A v t) l.align) m
      where
        tail : {b : Bool} → Tells (A v t < l.align) b → (M v < cond b (fixed_part v t) (up t.base l.align) → ⊥)
            → TailIn v (cond b (coarser v l.align t) (finer l.align t))
        tail (holds y) m = record {
          offset = g.offset;
          elem = g.elem;
          base = omega (arith, m, pow_pos v, down_le (fixed_part v t) l.align);
          word = omega (arith, double v a h.align, mod-lt (fixed_part v t) (positive a));
        }
        tail (fails y) m = record { offset = g.offset; elem = g.elem; base = omega (arith, m, pow_pos v); word = g.word }

pub pad_low : (v w : ℕ) (l : Layout) → v ≤ w → LayoutIn v l → pad_for v l ≡ mapped (low_layout v) (pad_within (M v) (pad_for w l))
unfolding pad_for
pad_low v w l h hl =
    unless_same (low_layout v) (pad_causes v l) (padded v l) (pad_decided v l hl.align) (λ n. low_layout_lem v (padded v l) (padded_in v l hl n))
    ∙ ap (mapped (low_layout v)) (pad_narrows v w l h hl)
