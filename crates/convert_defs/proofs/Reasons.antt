-- The reasons why there is no conversion: each test decides its statement, over any width and comparison. Assumes nothing.
use mathlib.Core.Path.{◌≡◌, refl, sym, ap, ◌∙◌}
use mathlib.Core.Bool.{not}
use Prim.Native.Nat.{ℕ, ◌*◌, ◌/◌, ◌%◌, ◌^◌, ◌<◌}
use lib.Dec.{eqb}
use native.Mathlib.Nat.{mul-mod_left}
use native.Mathlib.Omega.{arith}
use Rattle.util_defs.specs.Refusal.{Outcome, answered, refused, Tells, holds, fails, None, Decided}
use Rattle.util_defs.proofs.Refusals.{tells_eq, tells_lt, tells_not, tells_as}
use Rattle.util_defs.proofs.Tables.{apart}
use Rattle.util_defs.proofs.Rounding.{multiple}
use Rattle.trailing_defs.specs.Size.{Trailing}
use Rattle.layout_defs.specs.Layout.{Marks, Info, fixed, trailing, Layout, layout_causes}
use Rattle.cast_defs.specs.Exact.{ExactCount, exact_for}
use Rattle.cast_defs.proofs.Exact.{exact_sound, exact_complete}
use Rattle.shift_defs.specs.Match.{Comparison}
use Rattle.shift_defs.specs.Shift.{Shift, by, missing, shift_of, IsShift}
use Rattle.shift_defs.proofs.Shifts.{slice, by_not, shift_sound, shift_complete}
use Rattle.convert_defs.specs.Reasons.{never, is_refused, is_missing, kind_causes}

-- a reason that there cannot be
off : Tells never.means never.test
off = fails (λ x. x)

pub tells_no_count : (w a : ℕ) (k : Marks) (t : Trailing) (s : ℕ) → a < 2 ^ w → 0 < w → None (layout_causes w (slice a k t))
    → Tells ((n : ℕ) → ExactCount w t s n → ⊥) (is_refused (exact_for w (slice a k t) s))
tells_no_count w a k t s h pos ok = go (exact_for w (slice a k t) s) refl
  where
    go : (o : Outcome ℕ) → exact_for w (slice a k t) s ≡ o → Tells ((n : ℕ) → ExactCount w t s n → ⊥) (is_refused o)
    go (answered n) e = fails (λ f. f n (exact_sound w (slice a k t) s n h pos e))
    go (refused c) e = holds (λ n x. apart (sym e ∙ exact_complete w (slice a k t) s n h pos ok x))

pub tells_no_shift : (w a : ℕ) (k : Marks) (same : Comparison) (s t : Trailing) → a < 2 ^ w → 0 < w
    → None (layout_causes w (slice a k t)) → 0 < t.elem
    → Tells ((d : ℕ) → IsShift w same s t d → ⊥) (is_missing (shift_of w same s (slice a k t) t))
tells_no_shift w a k same s t h pos ok pe = go (shift_of w same s (slice a k t) t) refl
  where
    go : (x : Shift) → shift_of w same s (slice a k t) t ≡ x → Tells ((d : ℕ) → IsShift w same s t d → ⊥) (is_missing x)
    go (by d) e = fails (λ f. f d (shift_sound w a k same s t d h pos pe e))
    go missing e = holds (λ d x. by_not (sym e ∙ shift_complete w a k same s t d h pos ok pe x))

pub tells_no_multiple : (m e : ℕ) → Tells ((k : ℕ) → m ≡ k * e → ⊥) (not (eqb (m % e) 0))
tells_no_multiple m e =
    tells_as (λ n k i. n (ap (λ (z : ℕ). z % e) i ∙ mul-mod_left k e)) (λ f z. f (m / e) (sym (multiple m e z)))
    (tells_not (tells_eq (m % e) 0))

-- by the kinds of the source i and of the target
pub kinds_decided : (w a : ℕ) (k : Marks) (same : Comparison) (i j : Info) → a < 2 ^ w → 0 < w
    → let l : Layout = record { align = a; info = j; mark = k.0; modifier = k.1 } in None (layout_causes w l) → Decided (kind_causes w same i l j)
kinds_decided w a k same (fixed x) (fixed y) h pos ok =
    (tells_not (tells_eq x y), λ _. (off, λ _. (off, λ _. (off, λ _. (off, λ _. (off, λ _. (off, λ _. tt)))))))
kinds_decided w a k same (fixed x) (trailing t) h pos ok =
    (off, λ _. (off, λ _. (tells_no_count w a k t x h pos ok, λ _. (off, λ _. (off, λ _. (off, λ _. (off, λ _. tt)))))))
kinds_decided w a k same (trailing s) (fixed y) h pos ok =
    (off, λ _. (holds tt, λ _. (off, λ _. (off, λ _. (off, λ _. (off, λ _. (off, λ _. tt)))))))
kinds_decided w a k same (trailing s) (trailing t) h pos ok = (
  off,
  λ _. (
    off,
    λ _. (
      off,
      λ _. (
        tells_eq t.elem 0,
        λ n. (
          tells_lt s.elem t.elem,
          λ _.
              (tells_no_multiple s.elem t.elem, λ _. (tells_no_shift w a k same s t h pos ok (omega (arith, n)), λ _. tt)),
        ),
      ),
    ),
  ),
)
