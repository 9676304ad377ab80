-- What the answers of layouts tell their callers. Assumes nothing.
use Rattle.util.specs.declared.refusal.Refusal.{Refusal}
use Rattle.std.specs.Prelude.{Ok, Result}
use mathlib.Core.Path.{◌≡◌, sym, ap, subst}
use Prim.Native.Nat.{ℕ}
use Rattle.util_defs.specs.Refusal.{Meets}
use Rattle.util_defs.proofs.Refusals.{answered_means}
use Rattle.layout_defs.specs.Layout.{Layout, fixed, layout_causes, FitsWidth}
use Rattle.layout.specs.declared.DstLayout.{DstLayout}
use Rattle.layout.specs.declared.SizeInfo.{SizeInfo}
use Rattle.layout.specs.declared.SizeInfo.TheVariants.{Sized}
use Rattle.layout.specs.View.{info_of, layout_of, check_says}

-- the numbers of a layout that passed its check are held
pub held_accepted : {w : ℕ} {l : Layout} (r : Result (Unit {0}) Refusal) → Meets (layout_causes w l) (λ _. FitsWidth w l) (check_says r) → r ≡ Ok tt → FitsWidth w l
held_accepted {w} {l} r m e = (answered_means (subst (λ (x : Result (Unit {0}) Refusal). Meets (layout_causes w l) (λ _. FitsWidth w l) (check_says x)) e m)).1

-- a layout whose size is known, by that size
pub sized_as : (l : DstLayout ℕ) {n : ℕ} → l.size_info ≡ Sized n
    → record { align = l.align; info = fixed n; mark = l.statically_shallow_unpadded; modifier = l.align_modifier } ≡ layout_of l
sized_as l e =
    ap (λ (z : SizeInfo ℕ). record { align = l.align; info = info_of z; mark = l.statically_shallow_unpadded; modifier = l.align_modifier }) (sym e)
