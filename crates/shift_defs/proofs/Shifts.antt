-- The shift as computed and as a statement, over any width and comparison. Assumes nothing.
use mathlib.Core.Path.{◌≡◌, refl, sym, ap, ◌∙◌, subst}
use mathlib.Core.Bool.{Bool, true, false, cond, ◌&&◌}
use mathlib.Core.Logic.{inl, inr}
use Prim.Native.Nat.{ℕ, ◌+◌, ◌-◌, ◌*◌, ◌/◌, ◌%◌, ◌^◌, ◌≤◌, ◌<◌}
use lib.Dec.{eqb, leb}
use borrow.Author.Tests.{le-leb}
use native.Mathlib.Nat.{mul-mod_left}
use native.Mathlib.Omega.{arith}
use Rattle.util_defs.specs.Width.{M}
use Rattle.util_defs.specs.Refusal.{Outcome, answered, refused, Tells, holds, fails, None, Meets, Decided}
use Rattle.util_defs.proofs.Refusals.{told_true, tells_eq, tells_le, tells_and, meets}
use Rattle.util_defs.proofs.Tables.{decided_both, none_both}
use Rattle.util_defs.proofs.Rounding.{multiple, same_multiple}
use Rattle.trailing_defs.specs.Size.{Trailing, size_at, HasSize, size_offset}
use Rattle.layout_defs.specs.Layout.{Marks, marks, Info, fixed, trailing, Layout, layout_causes}
use Rattle.layout_defs.proofs.Layouts.{layout_decided}
use Rattle.cast_defs.specs.Exact.{ExactCount, exact_for}
use Rattle.cast_defs.proofs.Exact.{exact_sound, exact_complete}
use Rattle.shift_defs.specs.Match.{Comparison, Matches, match_test}
use Rattle.shift_defs.specs.Shift.{Shift, by, missing, by_offset, answered_by, by_size, matched_shift, or_else, shift_of, IsShift, shift_between, shift_causes, shift_for, ShiftMeans}
use Rattle.shift_defs.proofs.Matching.{tells_matches}

-- a shift is one number, and not missing
by_is : {c d : ℕ} → by c ≡ by d → c ≡ d
by_is e = cc

pub by_not : {d : ℕ} → missing ≡ by d → ⊥
by_not e = let z : ◌≡◌ {A = ℕ} 0 1 = cc in omega arith

-- the first way: d whole target elements between the size offsets
offsets_tell : (w : ℕ) (s t : Trailing) → Tells ((size_offset w t ≤ size_offset w s) × ((size_offset w s - size_offset w t) % t.elem ≡ 0)) (leb (size_offset w t) (size_offset w s) && eqb ((size_offset w s - size_offset w t) % t.elem) 0)
offsets_tell w s t = tells_and (tells_le (size_offset w t) (size_offset w s)) (tells_eq ((size_offset w s - size_offset w t) % t.elem) 0)

offset_sound : (w : ℕ) (s t : Trailing) (d : ℕ) → by_offset w s t ≡ by d → size_offset w s ≡ size_offset w t + d * t.elem
offset_sound w s t d e = go (offsets_tell w s t) e
  where
    go : {b : Bool} → Tells ((size_offset w t ≤ size_offset w s) × ((size_offset w s - size_offset w t) % t.elem ≡ 0)) b
        → cond b (by ((size_offset w s - size_offset w t) / t.elem)) missing ≡ by d → size_offset w s ≡ size_offset w t + d * t.elem
    go (holds x) e =
        let i = ap (λ (z : ℕ). z * t.elem) (by_is e) in
        omega (arith, multiple (size_offset w s - size_offset w t) t.elem x.1, x.0)
    go (fails n) e = absurd (by_not e)

offset_complete : (w : ℕ) (s t : Trailing) (d : ℕ) → 0 < t.elem → size_offset w s ≡ size_offset w t + d * t.elem → by_offset w s t ≡ by d
offset_complete w s t d h e =
    let D = size_offset w s - size_offset w t in
    let i : D ≡ d * t.elem = omega arith in
    let m : D % t.elem ≡ 0 = ap (λ (z : ℕ). z % t.elem) i ∙ mul-mod_left d t.elem in
    let q : D / t.elem * t.elem ≡ D = multiple D t.elem m in
    simp (told_true (offsets_tell w s t) (omega arith, m)) (ap by (same_multiple t.elem (D / t.elem) d (omega arith) (omega arith)))

-- a shift that matches
matching_sound : (w : ℕ) (same : Comparison) (s t : Trailing) (sh : Shift) (d : ℕ) → matched_shift w same s t sh ≡ by d → (sh ≡ by d) × Matches w same s t d
matching_sound w same s t missing d e = absurd (by_not e)
matching_sound w same s t (by c) d e = go (tells_matches w same s t c) e
  where
    go : {b : Bool} → Tells (Matches w same s t c) b → cond b (by c) missing ≡ by d → (by c ≡ by d) × Matches w same s t d
    go (holds m) e = (e, subst (Matches w same s t) (by_is e) m)
    go (fails n) e = absurd (by_not e)

matching_complete : (w : ℕ) (same : Comparison) (s t : Trailing) (sh : Shift) (d : ℕ) → sh ≡ by d → Matches w same s t d → matched_shift w same s t sh ≡ by d
matching_complete w same s t sh d e m = ap (matched_shift w same s t) e ∙ simp (told_true (tells_matches w same s t d) m)

-- a trailing target
abbrev pub slice : ℕ → Marks → Trailing → Layout
slice a k t = record { align = a; info = trailing t; mark = k.0; modifier = k.1 }

-- the second way: the target's exact count of the source's size at 0
answered_sound : {d : ℕ} (o : Outcome ℕ) → answered_by o ≡ by d → o ≡ answered d
answered_sound (answered c) e = ap answered (by_is e)
answered_sound (refused c) e = absurd (by_not e)

size_sound : (w a : ℕ) (k : Marks) (s t : Trailing) (d : ℕ) → a < 2 ^ w → 0 < w → by_size w s (slice a k t) ≡ by d → HasSize w s 0 × ExactCount w t (size_at w s 0) d
size_sound w a k s t d h pos e = go (tells_le (size_at w s 0) (M w)) e
  where
    go : {b : Bool} → Tells (HasSize w s 0) b → cond b (answered_by (exact_for w (slice a k t) (size_at w s 0))) missing ≡ by d → HasSize w s 0 × ExactCount w t (size_at w s 0) d
    go (holds l) e = (l, exact_sound w (slice a k t) (size_at w s 0) d h pos (answered_sound (exact_for w (slice a k t) (size_at w s 0)) e))
    go (fails n) e = absurd (by_not e)

size_complete : (w a : ℕ) (k : Marks) (s t : Trailing) (d : ℕ) → a < 2 ^ w → 0 < w → None (layout_causes w (slice a k t)) → HasSize w s 0 → ExactCount w t (size_at w s 0) d
    → by_size w s (slice a k t) ≡ by d
size_complete w a k s t d h pos ok l x =
    simp (le-leb (size_at w s 0) (M w) l) (ap answered_by (exact_complete w (slice a k t) (size_at w s 0) d h pos ok x))

-- the shift, by the first way or by the second
pub shift_sound : (w a : ℕ) (k : Marks) (same : Comparison) (s t : Trailing) (d : ℕ) → a < 2 ^ w → 0 < w → 0 < t.elem
    → shift_of w same s (slice a k t) t ≡ by d → IsShift w same s t d
unfolding shift_of
shift_sound w a k same s t d h pos pe e = go (matched_shift w same s t (by_offset w s t)) refl e
  where
    go : (x : Shift) → matched_shift w same s t (by_offset w s t) ≡ x → or_else x (matched_shift w same s t (by_size w s (slice a k t))) ≡ by d → IsShift w same s t d
    go (by c) i e =
        let m = matching_sound w same s t (by_offset w s t) d (i ∙ e) in
        inl (record { offsets = offset_sound w s t d m.0; match = m.1 })
    go missing i e =
        let m = matching_sound w same s t (by_size w s (slice a k t)) d e in
        let z = size_sound w a k s t d h pos m.0 in
        inr (record {
          not_first = λ c f. by_not (sym i ∙ matching_complete w same s t (by_offset w s t) c (offset_complete w s t c pe f.offsets) f.match);
          start = z.0;
          exact = z.1;
          match = m.1;
        })

pub shift_complete : (w a : ℕ) (k : Marks) (same : Comparison) (s t : Trailing) (d : ℕ) → a < 2 ^ w → 0 < w → None (layout_causes w (slice a k t)) → 0 < t.elem
    → IsShift w same s t d → shift_of w same s (slice a k t) t ≡ by d
unfolding shift_of
shift_complete w a k same s t d h pos ok pe (inl f) =
    ap (λ (x : Shift). or_else x (matched_shift w same s t (by_size w s (slice a k t)))) (matching_complete w same s t (by_offset w s t) d (offset_complete w s t d pe f.offsets) f.match)
shift_complete w a k same s t d h pos ok pe (inr f) = go (matched_shift w same s t (by_offset w s t)) refl
  where
    go : (x : Shift) → matched_shift w same s t (by_offset w s t) ≡ x → or_else (matched_shift w same s t (by_offset w s t)) (matched_shift w same s t (by_size w s (slice a k t))) ≡ by d
    go (by c) i = let m = matching_sound w same s t (by_offset w s t) c i in absurd (f.not_first c (record { offsets = offset_sound w s t c m.0; match = m.1 }))
    go missing i =
        ap (λ (x : Shift). or_else x (matched_shift w same s t (by_size w s (slice a k t)))) i
        ∙ matching_complete w same s t (by_size w s (slice a k t)) d (size_complete w a k s t d h pos ok f.start f.exact) f.match

-- two numbers that are the shift are equal
pub one_shift : {w : ℕ} {same : Comparison} {s t : Trailing} {c d : ℕ} → 0 < t.elem → IsShift w same s t c → IsShift w same s t d → c ≡ d
one_shift {t = t} {c = c} {d = d} h (inl f) (inl g) = same_multiple t.elem c d (omega (arith, f.offsets, g.offsets)) (omega (arith, f.offsets, g.offsets))
one_shift {c = c} h (inl f) (inr g) = absurd (g.not_first c f)
one_shift {d = d} h (inr f) (inl g) = absurd (f.not_first d g)
one_shift {c = c} {d = d} h (inr f) (inr g) = omega (arith, f.exact.greatest d g.exact.size, g.exact.greatest c f.exact.size)

-- between layouts of which the second is accepted, what is computed is the shift, and where that is missing there is none
shift_means : (w a : ℕ) (k : Marks) (same : Comparison) (i j : Info) → a < 2 ^ w → 0 < w
    → let l : Layout = record { align = a; info = j; mark = k.0; modifier = k.1 } in None (layout_causes w l) → ShiftMeans w same i j (shift_between w same i l j)
shift_means w a k same (fixed z) j h pos ok = λ d x. x
shift_means w a k same (trailing s) (fixed b) h pos ok = λ d x. x
shift_means w a k same (trailing s) (trailing t) h pos ok = go (tells_eq t.elem 0)
  where
    given : (x : Shift) → shift_of w same s (slice a k t) t ≡ x → 0 < t.elem → ShiftMeans w same (trailing s) (trailing t) x
    given (by d) e n = (n, shift_sound w a k same s t d h pos n e)
    given missing e n = λ d x. by_not (sym e ∙ shift_complete w a k same s t d h pos ok n x.1)

    go : {b : Bool} → Tells (t.elem ≡ 0) b → ShiftMeans w same (trailing s) (trailing t) (cond b missing (shift_of w same s (slice a k t) t))
    go (holds z) = λ d x. omega (arith, x.0)
    go (fails n) = given (shift_of w same s (slice a k t) t) refl (omega (arith, n))

pub shift_decided : (w : ℕ) (s t : Layout) → s.align < 2 ^ w → t.align < 2 ^ w → Decided (shift_causes w s t)
shift_decided w s t hs ht = decided_both (layout_causes w s) (layout_causes w t) (layout_decided w s hs) (λ _. layout_decided w t ht)

-- the shift that is answered is the shift, and a missing one means that there is none
pub shift_meets : (w : ℕ) (same : Comparison) (s t : Layout) → s.align < 2 ^ w → t.align < 2 ^ w → 0 < w
    → Meets (shift_causes w s t) (ShiftMeans w same s.info t.info) (shift_for w same s t)
unfolding shift_for
shift_meets w same s t hs ht pos =
    meets (shift_causes w s t) (shift_between w same s.info t t.info) (shift_decided w s t hs ht)
    (λ n. shift_means w t.align (marks t) same s.info t.info ht pos (none_both (layout_causes w s) (layout_causes w t) n).1)

-- a shift x that is d is kept exactly where the two match at d
pub matched_yes : (w : ℕ) (same : Comparison) (s t : Trailing) (x : Shift) (d : ℕ) → by d ≡ x → match_test w same s t d ≡ true → by d ≡ matched_shift w same s t x
matched_yes w same s t x d e m = sym (ap (λ (b : Bool). cond b (by d) missing) m) ∙ ap (matched_shift w same s t) e

pub matched_no : (w : ℕ) (same : Comparison) (s t : Trailing) (x : Shift) (d : ℕ) → by d ≡ x → match_test w same s t d ≡ false → missing ≡ matched_shift w same s t x
matched_no w same s t x d e m = sym (ap (λ (b : Bool). cond b (by d) missing) m) ∙ ap (matched_shift w same s t) e
