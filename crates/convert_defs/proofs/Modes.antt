-- What the ported mode converts the full mode converts alike, over any width. Assumes nothing.
use mathlib.Core.Path.{subst}
use mathlib.Core.List.{◌++◌}
use Prim.Native.Nat.{ℕ, ◌<◌}
use native.Mathlib.Omega.{arith}
use Rattle.util_defs.specs.Refusal.{Meets}
use Rattle.util_defs.proofs.Refusals.{answered_means}
use Rattle.util_defs.proofs.Tables.{none_both}
use Rattle.layout_defs.specs.Layout.{Info, no_word, layout_causes, WordFits}
use Rattle.shift_defs.specs.Mode.{ported, full, comparison_of}
use Rattle.shift_defs.proofs.Modes.{shift_stays}
use Rattle.convert_defs.specs.Reasons.{conversion_causes}
use Rattle.convert_defs.specs.Convert.{Params, KindsConvert, fixed_to_fixed, fixed_to_trailing, trailing_to_trailing, Converts, compute_causes}
use Rattle.convert_defs.specs.Modes.{FullKeeps}
use Rattle.convert_defs.proofs.Conversions.{compute_meets, compute_accepts}

kinds_stay : {i j : Info} {q : Params} (w : ℕ) → WordFits w i → WordFits w j → ((no_word i).means → ⊥) → ((no_word j).means → ⊥)
    → KindsConvert w (comparison_of w ported) i j q → KindsConvert w (comparison_of w full) i j q
kinds_stay w hi hj ni nj fixed_to_fixed = fixed_to_fixed
kinds_stay w hi hj ni nj (fixed_to_trailing x) = fixed_to_trailing x
kinds_stay w hi hj ni nj (trailing_to_trailing {s = s} {t = t} {d = d} m x) =
    trailing_to_trailing m (shift_stays w s t (omega (arith, ni)) hi (omega (arith, nj)) hj d x)

pub full_keeps : (w : ℕ) → 0 < w → FullKeeps w
full_keeps w pos s t q fs ft e =
    let same = comparison_of w ported in
    let m = answered_means (subst (Meets (compute_causes w same s t) (Converts w same s t)) e (compute_meets w same s t fs.align ft.align pos)) in
    let a = none_both (layout_causes w s) (layout_causes w t ++ conversion_causes w same s t) m.0 in
    let b = none_both (layout_causes w t) (conversion_causes w same s t) a.1 in
    compute_accepts w (comparison_of w full) s t q fs.align ft.align pos a.0 b.0
    (record { align = m.1.align; kinds = kinds_stay w fs.word ft.word a.0.1.0 b.0.1.0 m.1.kinds })
