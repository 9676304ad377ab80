-- Whether a layout needs padding, at any width w. Assumes nothing.
use mathlib.Core.Path.{◌≡◌, refl}
use mathlib.Core.Bool.{Bool, true, false, not}
use Prim.Native.Nat.{ℕ, ◌%◌, ◌^◌, ◌<◌}
use native.Mathlib.Omega.{arith}
use Rattle.util_defs.specs.Width.{M}
use Rattle.util_defs.specs.Refusal.{answered, Tells, holds, fails, Meets}
use Rattle.util_defs.proofs.Refusals.{tells_eq, tells_lt, tells_not, tells_as, tells_or, meets, clear}
use Rattle.rounding.specs.Word.{align_of, word_causes, align_for}
use Rattle.trailing_defs.specs.Size.{A, size_at}
use Rattle.layout_defs.specs.Layout.{Info, fixed, trailing, Layout, layout_causes}
use Rattle.padding_defs.specs.Pad.{static_for, DynamicPadding, dynamic_padding, dynamic_for}
use Rattle.layout_defs.proofs.Layouts.{layout_decided}

-- the mark turned round tells whether it is unset
tells_unset : (b : Bool) → Tells (b ≡ false) (not b)
tells_unset true = fails (λ e. let z : ◌≡◌ {A = ℕ} 0 1 = cc in omega arith)
tells_unset false = holds refl

pub static_meets : (w : ℕ) (l : Layout) → l.align < 2 ^ w → Meets (layout_causes w l) (Tells (l.mark ≡ false)) (static_for w l)
unfolding static_for
static_meets w l h = meets (layout_causes w l) (not l.mark) (layout_decided w l h) (λ _. tells_unset l.mark)

-- the test of dynamic padding decides it
pub tells_dynamic : (w : ℕ) (i : Info) → Tells (DynamicPadding w i) (dynamic_padding w i)
tells_dynamic w (fixed s) = fails (λ x. x)
tells_dynamic w (trailing t) =
    tells_or (tells_as (λ l h. omega arith) (λ n. omega (arith, n)) (tells_lt (M w) (size_at w t 0)))
    (tells_or (tells_not (tells_eq (size_at w t 0) t.offset)) (tells_not (tells_eq (t.elem % A w t) 0)))

pub dynamic_meets : (w : ℕ) (l : Layout) → l.align < 2 ^ w → Meets (layout_causes w l) (Tells (DynamicPadding w l.info)) (dynamic_for w l)
unfolding dynamic_for
dynamic_meets w l h = meets (layout_causes w l) (dynamic_padding w l.info) (layout_decided w l h) (λ _. tells_dynamic w l.info)

-- a rounding word that is not 0 has its alignment
pub align_answered : (w n : ℕ) → 0 < n → align_for w n ≡ answered (align_of w n)
unfolding align_for
align_answered w n h = clear (word_causes n) (tells_eq n 0, λ _. tt) ((λ z. omega arith), tt)
