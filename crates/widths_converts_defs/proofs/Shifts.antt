-- The match and the shift as they are asked for, at v bits, by w. Assumes nothing.
use mathlib.Core.Path.{◌≡◌, refl, sym, ap, ◌∙◌, subst}
use mathlib.Core.Bool.{Bool, true, false, cond, ◌&&◌}
use mathlib.Core.List.{[]}
use mathlib.Core.Logic.{inl, inr}
use Prim.Native.Nat.{ℕ, ◌^◌, ◌≤◌, ◌<◌}
use native.Mathlib.Nat.{mod-eq_of_lt, le-mul_of_pos_right}
use native.Mathlib.Omega.{arith}
use lib.Dec.{eqb}
use lib.Pow.{pow_pos}
use borrow.Author.Tests.{lt-leb}
use Rattle.util_defs.specs.Width.{M}
use Rattle.util_defs.specs.Refusal.{Outcome, answered, unless, Tells, holds, fails, Meets}
use Rattle.util_defs.proofs.Refusals.{answered_means, tells_eq, tells_le}
use Rattle.trailing_defs.specs.Size.{Trailing, size_at, HasSize}
use Rattle.trailing_defs.specs.Calls.{same_causes}
use Rattle.layout_defs.specs.Layout.{Info, fixed, trailing, Layout, no_word, layout_causes}
use Rattle.layout_defs.proofs.Layouts.{layout_decided}
use Rattle.shift_defs.specs.Match.{match_test, match_for}
use Rattle.shift_defs.specs.Mode.{Mode, comparison_of}
use Rattle.shift_defs.specs.Shift.{Shift, by, missing, shift_of, IsShift, shift_between, shift_causes, shift_for, ShiftMeans}
use Rattle.shift_defs.proofs.Shifts.{shift_meets}
use Rattle.widths_defs.specs.Low.{mapped}
use Rattle.widths_defs.specs.Within.{has_start, same_within}
use Rattle.widths_defs.proofs.Widths.{held, mapped_same, tables}
use Rattle.widths_defs.proofs.Sequences.{start_true, start_false}
use Rattle.widths_layouts_defs.specs.Low.{InfoIn, LayoutIn}
use Rattle.widths_layouts_defs.proofs.Layouts.{layout_alike}
use Rattle.widths_converts_defs.specs.Within.{starts_in, shift_within, low_shift}
use Rattle.widths_converts_defs.proofs.Matching.{same_matches, same_shift, no_shift}

-- `size_sequences_match`: yes at w, and the source has a size at 0 at v
no_match : (m : Mode) (v : ℕ) (s t : Trailing) (d : ℕ) → M v < size_at v s 0 → match_test v (comparison_of v m) s t d ≡ false
unfolding match_test
no_match m v s t d h = simp (lt-leb (size_at v s 0) (M v) h)

pub match_narrows : (m : Mode) (v w : ℕ) (s t : Trailing) (d : ℕ) → v ≤ w → s.word < 2 ^ v → t.word < 2 ^ v
    → match_for v (comparison_of v m) s t d ≡ same_within (has_start v s) (match_for w (comparison_of w m) s t d)
unfolding match_for unless
match_narrows m v w s t d l hs ht =
    tables (same_within (has_start v s)) (λ k. refl) (same_causes s t) (same_causes s t) [] [] (match_test v (comparison_of v m) s t d) (match_test w (comparison_of w m) s t d)
    ((refl, refl), ((refl, refl), tt)) (tells_eq s.word 0, λ _. (tells_eq t.word 0, λ _. tt))
    (λ n. ap answered (go (omega (arith, n.0)) (omega (arith, n.1.0)) (tells_le (size_at v s 0) (M v))))
  where
    x : Bool
    x = match_test w (comparison_of w m) s t d

    go : 0 < s.word → 0 < t.word → {b : Bool} → Tells (HasSize v s 0) b → match_test v (comparison_of v m) s t d ≡ (has_start v s && x)
    go ps pt (holds h) = same_matches m v w s t l ps hs pt ht d h ∙ sym (ap (λ (b : Bool). b && x) (start_true v s ps hs h))
    go ps pt (fails n) = no_match m v s t d (omega (arith, n)) ∙ sym (ap (λ (b : Bool). b && x) (start_false v s ps n))

-- `offset_delta_elems`: the same, and none where the source has no size at 0 at v
between : (m : Mode) (v w : ℕ) (i j : Info) (k : Layout) → v ≤ w → InfoIn v i → InfoIn v j → LayoutIn v k → ((no_word i).means → ⊥) → ((no_word j).means → ⊥)
    → shift_between v (comparison_of v m) i k j ≡ shift_within (starts_in v i) (shift_between w (comparison_of w m) i k j)
between m v w (fixed a) j k l hi hj hk ni nj = refl
between m v w (trailing s) (fixed b) k l hi hj hk ni nj = none (has_start v s)
  where
    none : (b : Bool) → missing ≡ cond b missing missing
    none true = refl
    none false = refl
between m v w (trailing s) (trailing t) k l hi hj hk ni nj = go (eqb t.elem 0) (tells_le (size_at v s 0) (M v))
  where
    ps : 0 < s.word
    ps = omega (arith, ni)

    x : Shift
    x = shift_of w (comparison_of w m) s k t

    same : (z : Bool) {b : Bool} → Tells (HasSize v s 0) b → shift_of v (comparison_of v m) s k t ≡ cond (has_start v s) x missing
    same z (holds h) =
        same_shift m v w s t l ps hi.word (omega (arith, nj)) hj.word k hk h ∙ ap (λ (b : Bool). cond b x missing) (sym (start_true v s ps hi.word h))
    same z (fails n) = no_shift m v s t k (omega (arith, n)) ∙ ap (λ (b : Bool). cond b x missing) (sym (start_false v s ps n))

    none : (b : Bool) → missing ≡ cond b missing missing
    none true = refl
    none false = refl

    go : (z : Bool) {b : Bool} → Tells (HasSize v s 0) b → cond z missing (shift_of v (comparison_of v m) s k t) ≡ cond (has_start v s) (cond z missing x) missing
    go true h = none (has_start v s)
    go false h = same false h

pub shift_narrows : (m : Mode) (v w : ℕ) (s t : Layout) → v ≤ w → LayoutIn v s → LayoutIn v t
    → shift_for v (comparison_of v m) s t ≡ mapped (shift_within (starts_in v s.info)) (shift_for w (comparison_of w m) s t)
unfolding shift_for unless
shift_narrows m v w s t h hs ht =
    let N : Outcome Shift → Outcome Shift = mapped (shift_within (starts_in v s.info)) in
    let x = shift_between v (comparison_of v m) s.info t t.info in
    let y = shift_between w (comparison_of w m) s.info t t.info in
    tables N (λ k. refl) (layout_causes v s) (layout_causes w s) (layout_causes v t) (layout_causes w t) x y
    (layout_alike v w s h hs.align) (layout_decided w s (held v w h hs.align))
    (λ ns. tables N (λ k. refl) (layout_causes v t) (layout_causes w t) [] [] x y
    (layout_alike v w t h ht.align) (layout_decided w t (held v w h ht.align))
    (λ nt. ap answered (between m v w s.info t.info t h hs.info ht.info ht ns.1.0 nt.1.0)))

-- and a shift is held
shift_in : (m : Mode) (v : ℕ) (i j : Info) (x : Shift) → ShiftMeans v (comparison_of v m) i j x → low_shift v x ≡ x
shift_in m v (trailing s) (trailing t) (by d) h = ap by (mod-eq_of_lt (go h.1))
  where
    go : IsShift v (comparison_of v m) s t d → d < 2 ^ v
    go (inl f) = omega (arith, pow_pos v, f.match.advance, le-mul_of_pos_right d h.0)
    go (inr f) = omega (arith, pow_pos v, f.match.advance, le-mul_of_pos_right d h.0)
shift_in m v (trailing s) (fixed b) (by d) h = absurd h
shift_in m v (fixed a) j (by d) h = absurd h
shift_in m v i j missing h = refl

pub shift_low : (m : Mode) (v w : ℕ) (s t : Layout) → v ≤ w → 0 < v → LayoutIn v s → LayoutIn v t
    → shift_for v (comparison_of v m) s t ≡ mapped (low_shift v) (mapped (shift_within (starts_in v s.info)) (shift_for w (comparison_of w m) s t))
shift_low m v w s t h pos hs ht =
    mapped_same (low_shift v) (shift_for v (comparison_of v m) s t) (λ x e.
    let c = comparison_of v m in
    let q = answered_means (subst (λ (o : Outcome Shift). Meets (shift_causes v s t) (ShiftMeans v c s.info t.info) o) e (shift_meets v c s t hs.align ht.align pos)) in
    shift_in m v s.info t.info x q.1)
    ∙ ap (mapped (low_shift v)) (shift_narrows m v w s t h hs ht)
