-- Layouts, over any width w. Assumes nothing.
use mathlib.Core.Path.{◌≡◌, sym, subst}
use mathlib.Core.Bool.{Bool, true, false}
use Prim.Native.Nat.{ℕ, ◌^◌, ◌<◌}
use Rattle.util_defs.specs.Power.{power_of_two}
use Rattle.util_defs.specs.Refusal.{Outcome, answered, refused, unless, Tells, fails, Meets, refuses, Decided}
use Rattle.util_defs.proofs.Refusals.{tells_eq, meets, refused_means}
use Rattle.util_defs.proofs.Helpers.{align_decided}
use Rattle.layout_defs.specs.Layout.{Info, fixed, trailing, Layout, no_word, layout_causes, FitsWidth, check_for}

-- a fixed layout has no rounding word; that of a trailing one is tested
pub word_decided : (i : Info) → Tells (no_word i).means (no_word i).test
word_decided (fixed s) = fails (λ x. x)
word_decided (trailing t) = tells_eq t.word 0

pub layout_decided : (w : ℕ) (l : Layout) → l.align < 2 ^ w → Decided (layout_causes w l)
layout_decided w l h = (align_decided w l.align h, λ _. (word_decided l.info, λ _. tt))

-- what a check means: an accepted layout is one, and its numbers are held
pub check_meets : (w : ℕ) (l : Layout) → FitsWidth w l → Meets (layout_causes w l) (λ _. FitsWidth w l) (check_for w l)
unfolding check_for
check_meets w l h = meets (layout_causes w l) tt (layout_decided w l h.align) (λ _. h)

pub check_refused : {k : ℕ} (w : ℕ) (l : Layout) → l.align < 2 ^ w → refused k ≡ check_for w l → (refused k ≡ check_for w l) × Meets (layout_causes w l) (λ (_ : Unit {0}). FitsWidth w l) (refused k)
unfolding check_for
check_refused {k} w l h e = (e, refuses (refused_means m))
  where
    m : Meets (layout_causes w l) (λ (_ : Unit {0}). Unit {0}) (refused k)
    m = subst (λ (o : Outcome (Unit {0})). Meets (layout_causes w l) (λ (_ : Unit {0}). Unit {0}) o) (sym e) (meets (layout_causes w l) tt (layout_decided w l h) (λ _. tt))

-- a fixed layout is accepted exactly when its alignment is a power of two
pub fixed_accepted : (w a s : ℕ) (mark over : Bool) → power_of_two w a ≡ true → check_for w (record { align = a; info = fixed s; mark = mark; modifier = over }) ≡ answered tt
unfolding check_for unless
fixed_accepted w a s mark over e = simp e

pub fixed_refused : (w a s : ℕ) (mark over : Bool) → power_of_two w a ≡ false → check_for w (record { align = a; info = fixed s; mark = mark; modifier = over }) ≡ refused 1
unfolding check_for unless
fixed_refused w a s mark over e = simp e
