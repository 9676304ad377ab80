-- Conversions at v bits, by w. Assumes nothing.
use mathlib.Core.Path.{◌≡◌, refl, sym, ap, ap₂, ◌∙◌, subst}
use mathlib.Core.Bool.{Bool, true, false, cond, not}
use mathlib.Core.List.{◌∷◌, ◌++◌}
use mathlib.Core.Logic.{inl, inr}
use Prim.Native.Nat.{ℕ, ◌*◌, ◌/◌, ◌%◌, ◌^◌, ◌≤◌, ◌<◌}
use native.Mathlib.Nat.{mod-eq_of_lt, le-mul_of_pos_right}
use native.Mathlib.Omega.{arith}
use lib.Pow.{pow_pos, pow_mono}
use lib.Dec.{eqb, leb, ltb}
use borrow.Author.Tests.{lt-leb, le-leb}
use Rattle.util_defs.specs.Width.{M}
use Rattle.util_defs.specs.Refusal.{Outcome, answered, refused, unless, Tells, holds, fails, Meets}
use Rattle.util_defs.proofs.Refusals.{answered_means, tells_le, tells_lt}
use Rattle.trailing_defs.specs.Size.{A, p, size_at, HasSize}
use Rattle.trailing_defs.proofs.Sizes.{size_ge}
use Rattle.layout_defs.specs.Layout.{Info, fixed, trailing, Layout, no_word, layout_causes}
use Rattle.layout_defs.proofs.Layouts.{layout_decided}
use Rattle.cast_defs.specs.Exact.{exact_for}
use Rattle.cast_defs.proofs.Grants.{align_pos}
use Rattle.shift_defs.specs.Mode.{Mode, comparison_of}
use Rattle.shift_defs.specs.Shift.{Shift, by, missing, shift_of, IsShift}
use Rattle.convert_defs.specs.Reasons.{is_refused, is_missing, because, source_align_lower, kind_causes, conversion_causes}
use Rattle.convert_defs.specs.Convert.{Params, sized_to_sized, sized_to_unsized, unsized_to_unsized, KindsConvert, fixed_to_fixed, fixed_to_trailing, trailing_to_trailing, Converts, compute_causes, with_count, with_shift, params_of, compute_for, converted, metadata_for}
use Rattle.convert_defs.proofs.Conversions.{compute_meets}
use Rattle.widths_defs.specs.Low.{mapped}
use Rattle.widths_defs.specs.Within.{has_start}
use Rattle.widths_defs.proofs.Widths.{held, mapped_same, tables, limit}
use Rattle.widths_defs.proofs.Sequences.{start_true, start_false}
use Rattle.widths_layouts_defs.specs.Low.{InfoIn, LayoutIn}
use Rattle.widths_layouts_defs.proofs.Layouts.{layout_alike}
use Rattle.widths_casts_defs.proofs.Exact.{exact_same}
use Rattle.widths_converts_defs.specs.Low.{low_params, ParamsIn}
use Rattle.widths_converts_defs.specs.Within.{starts_in, compute_within, metadata_within}
use Rattle.widths_converts_defs.proofs.Matching.{same_shift, no_shift}

-- a source that has a size at 0 changes nothing
started : (o : Outcome Params) → o ≡ compute_within true o
started (answered q) = refl
started (refused k) = refl

-- what the tests of the list give: 25; 29, 30, 31 and 32 of trailing layouts
abbrev trailed : (a b c d : Bool) → ℕ → Shift → Outcome Params
trailed a b c d k sh =
    cond a (refused 25) (cond b (refused 29) (cond c (refused 30) (cond d (refused 31) (cond (is_missing sh) (refused 32) (answered (with_shift k sh))))))

unstarted : (a b c d : Bool) (k : ℕ) (sh : Shift) → trailed a b c d k missing ≡ compute_within false (trailed a b c d k sh)
unstarted true b c d k sh = refl
unstarted false true c d k sh = refl
unstarted false false true d k sh = refl
unstarted false false false true k sh = refl
unstarted false false false false k (by n) = refl
unstarted false false false false k missing = refl

to_fixed : (a start : Bool) → cond a (refused 25) (refused 27) ≡ compute_within start (cond a (refused 25) (refused 27))
to_fixed true start = refl
to_fixed false start = refl

-- document 02's list: the same, and 32 where the source has no size at 0 at v
listed : (m : Mode) (v w : ℕ) (s t : Layout) (i j : Info) → v ≤ w → InfoIn v i → InfoIn v j → LayoutIn v t → ((no_word i).means → ⊥) → ((no_word j).means → ⊥)
    → unless (because 25 (source_align_lower s t) ∷ kind_causes v (comparison_of v m) i t j) (params_of v (comparison_of v m) i t j)
    ≡ compute_within (starts_in v i) (unless (because 25 (source_align_lower s t) ∷ kind_causes w (comparison_of w m) i t j) (params_of w (comparison_of w m) i t j))
unfolding unless
listed m v w s t (fixed a) (fixed b) l hi hj ht ni nj =
    started (cond (ltb s.align t.align) (refused 25) (cond (not (eqb a b)) (refused 26) (answered sized_to_sized)))
listed m v w s t (fixed a) (trailing u) l hi hj ht ni nj =
    let f : Outcome ℕ → Outcome Params = λ o. cond (ltb s.align t.align) (refused 25) (cond (is_refused o) (refused 28) (answered (with_count o))) in
    ap f (exact_same v w t a l ht (omega (arith, hi, pow_pos v))) ∙ started (f (exact_for w t a))
listed m v w s t (trailing r) (fixed b) l hi hj ht ni nj = to_fixed (ltb s.align t.align) (has_start v r)
listed m v w s t (trailing r) (trailing u) l hi hj ht ni nj = go (tells_le (size_at v r 0) (M v))
  where
    pr : 0 < r.word
    pr = omega (arith, ni)

    f : Shift → Outcome Params
    f = trailed (ltb s.align t.align) (eqb u.elem 0) (ltb r.elem u.elem) (not (eqb (r.elem % u.elem) 0)) (r.elem / u.elem)

    x : Shift
    x = shift_of w (comparison_of w m) r t u

    go : {b : Bool} → Tells (HasSize v r 0) b → f (shift_of v (comparison_of v m) r t u) ≡ compute_within (has_start v r) (f x)
    go (holds h) =
        ap f (same_shift m v w r u l pr hi.word (omega (arith, nj)) hj.word t ht h) ∙ started (f x)
        ∙ ap (λ (b : Bool). compute_within b (f x)) (sym (start_true v r pr hi.word h))
    go (fails n) =
        ap f (no_shift m v r u t (omega (arith, n)))
        ∙ unstarted (ltb s.align t.align) (eqb u.elem 0) (ltb r.elem u.elem) (not (eqb (r.elem % u.elem) 0)) (r.elem / u.elem) x
        ∙ ap (λ (b : Bool). compute_within b (f x)) (sym (start_false v r pr n))

-- `try_compute`
pub compute_narrows : (m : Mode) (v w : ℕ) (s t : Layout) → v ≤ w → LayoutIn v s → LayoutIn v t
    → compute_for v (comparison_of v m) s t ≡ compute_within (starts_in v s.info) (compute_for w (comparison_of w m) s t)
unfolding compute_for
compute_narrows m v w s t h hs ht =
    let N = compute_within (starts_in v s.info) in
    let cv = conversion_causes v (comparison_of v m) s t in
    let cw = conversion_causes w (comparison_of w m) s t in
    let qv = params_of v (comparison_of v m) s.info t t.info in
    let qw = params_of w (comparison_of w m) s.info t t.info in
    tables N (λ k. refl) (layout_causes v s) (layout_causes w s) (layout_causes v t ++ cv) (layout_causes w t ++ cw) qv qw
    (layout_alike v w s h hs.align) (layout_decided w s (held v w h hs.align))
    (λ ns. tables N (λ k. refl) (layout_causes v t) (layout_causes w t) cv cw qv qw
    (layout_alike v w t h ht.align) (layout_decided w t (held v w h ht.align))
    (λ nt. listed m v w s t s.info t.info h hs.info ht.info ht ns.1.0 nt.1.0))

-- and what it gives is held
kinds_in : {i t : Info} {q : Params} (m : Mode) (v : ℕ) → 0 < v → InfoIn v i → ((no_word t).means → ⊥) → KindsConvert v (comparison_of v m) i t q → ParamsIn v q
kinds_in m v pos h nw fixed_to_fixed = tt
kinds_in m v pos h nw (fixed_to_trailing {n = n} {t = t} x) =
    omega (arith, pow_pos v, x.exists, size_ge t.base (A v t) (p v t) (n * t.elem) (align_pos v t pos nw), le-mul_of_pos_right n x.elem)
kinds_in m v pos h nw (trailing_to_trailing {s = s} {t = t} {d = d} {k = k} y x) =
    (go x, omega (arith, h.elem, y.multiple, le-mul_of_pos_right k y.target))
  where
    go : IsShift v (comparison_of v m) s t d → d < 2 ^ v
    go (inl f) = omega (arith, pow_pos v, f.match.advance, le-mul_of_pos_right d y.target)
    go (inr f) = omega (arith, pow_pos v, f.match.advance, le-mul_of_pos_right d y.target)

low_params_lem : (v : ℕ) (q : Params) → ParamsIn v q → low_params v q ≡ q
low_params_lem v sized_to_sized h = refl
low_params_lem v (sized_to_unsized n) h = ap sized_to_unsized (mod-eq_of_lt h)
low_params_lem v (unsized_to_unsized d k) h = ap₂ unsized_to_unsized (mod-eq_of_lt h.0) (mod-eq_of_lt h.1)

compute_in : (m : Mode) (v : ℕ) (s t : Layout) (q : Params) → 0 < v → LayoutIn v s → LayoutIn v t → compute_for v (comparison_of v m) s t ≡ answered q → ParamsIn v q
compute_in m v s t q pos hs ht e =
    let c = comparison_of v m in
    let g = answered_means (subst (λ (o : Outcome Params). Meets (compute_causes v c s t) (Converts v c s t) o) e (compute_meets v c s t hs.align ht.align pos)) in
    kinds_in m v pos hs.info g.0.1.1.1.0 g.1.kinds

pub compute_low : (m : Mode) (v w : ℕ) (s t : Layout) → v ≤ w → 0 < v → LayoutIn v s → LayoutIn v t
    → compute_for v (comparison_of v m) s t ≡ mapped (low_params v) (compute_within (starts_in v s.info) (compute_for w (comparison_of w m) s t))
compute_low m v w s t h pos hs ht =
    mapped_same (low_params v) (compute_for v (comparison_of v m) s t) (λ q e. low_params_lem v q (compute_in m v s t q pos hs ht e))
    ∙ ap (mapped (low_params v)) (compute_narrows m v w s t h hs ht)

-- `cast_metadata`: 19 where the count passes M at v
pub metadata_narrows : (v w : ℕ) (q : Params) (n : ℕ) → v ≤ w → metadata_for v q n ≡ metadata_within (M v) (metadata_for w q n)
unfolding metadata_for unless
metadata_narrows v w q n l =
    let m : 2 ^ v ≤ 2 ^ w = pow_mono l in
    let c = converted q n in
    limit 19 c (λ z. leb z (M v)) (tells_lt (M v) c) (tells_lt (M w) c) (λ x. omega (arith, x)) (λ x. lt-leb c (M v) x) (λ x. le-leb c (M v) (omega (arith, x)))
