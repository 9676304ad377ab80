-- The rounding helpers at v bits, by w: the same. Assumes nothing.
use mathlib.Core.Path.{◌≡◌, ap, ◌∙◌}
use Prim.Native.Nat.{ℕ, ◌^◌, ◌≤◌, ◌<◌, max, min}
use native.Mathlib.Nat.{mod-eq_of_lt}
use native.Mathlib.Omega.{arith}
use Rattle.util_defs.specs.Refusal.{unless}
use Rattle.util_defs.specs.Round.{down, padding}
use Rattle.util_defs.specs.Helpers.{align_causes, aligns_causes, padding_for, round_down_for, max_for, min_for}
use Rattle.util_defs.proofs.Powers.{positive}
use Rattle.util_defs.proofs.Rounding.{down_le, padding_lt}
use Rattle.util_defs.proofs.Helpers.{power, align_decided}
use Rattle.widths_defs.specs.Low.{mapped, low}
use Rattle.widths_defs.proofs.Widths.{same_power, unless_same}

-- `padding_needed_for`
pub padding_same : (v w n a : ℕ) → v ≤ w → a < 2 ^ v → padding_for v n a ≡ padding_for w n a
unfolding padding_for unless
padding_same v w n a l h = simp (same_power v w a l h)

pub padding_low : (v w n a : ℕ) → v ≤ w → a < 2 ^ v → padding_for v n a ≡ mapped (low v) (padding_for w n a)
unfolding padding_for
padding_low v w n a l h =
    unless_same (low v) (align_causes v a) (padding n a) (align_decided v a h, λ _. tt) (λ z. mod-eq_of_lt (omega (arith, padding_lt n a (positive (power v a h z.0)))))
    ∙ ap (mapped (low v)) (padding_same v w n a l h)

-- `round_down_to_next_multiple_of_alignment`
pub down_same : (v w n a : ℕ) → v ≤ w → a < 2 ^ v → round_down_for v n a ≡ round_down_for w n a
unfolding round_down_for unless
down_same v w n a l h = simp (same_power v w a l h)

pub down_low : (v w n a : ℕ) → v ≤ w → n < 2 ^ v → a < 2 ^ v → round_down_for v n a ≡ mapped (low v) (round_down_for w n a)
unfolding round_down_for
down_low v w n a l hn h =
    unless_same (low v) (align_causes v a) (down n a) (align_decided v a h, λ _. tt) (λ _. mod-eq_of_lt (omega (arith, down_le n a))) ∙ ap (mapped (low v)) (down_same v w n a l h)

-- `max` and `min`
pub max_same : (v w a b : ℕ) → v ≤ w → a < 2 ^ v → b < 2 ^ v → max_for v a b ≡ max_for w a b
unfolding max_for unless
max_same v w a b l ha hb = simp (same_power v w a l ha, same_power v w b l hb)

pub max_low : (v w a b : ℕ) → v ≤ w → a < 2 ^ v → b < 2 ^ v → max_for v a b ≡ mapped (low v) (max_for w a b)
unfolding max_for
max_low v w a b l ha hb =
    unless_same (low v) (aligns_causes v a b) (max a b) (align_decided v a ha, λ _. (align_decided v b hb, λ _. tt)) (λ _. mod-eq_of_lt (omega arith)) ∙ ap (mapped (low v)) (max_same v w a b l ha hb)

pub min_same : (v w a b : ℕ) → v ≤ w → a < 2 ^ v → b < 2 ^ v → min_for v a b ≡ min_for w a b
unfolding min_for unless
min_same v w a b l ha hb = simp (same_power v w a l ha, same_power v w b l hb)

pub min_low : (v w a b : ℕ) → v ≤ w → a < 2 ^ v → b < 2 ^ v → min_for v a b ≡ mapped (low v) (min_for w a b)
unfolding min_for
min_low v w a b l ha hb =
    unless_same (low v) (aligns_causes v a b) (min a b) (align_decided v a ha, λ _. (align_decided v b hb, λ _. tt)) (λ _. mod-eq_of_lt (omega arith)) ∙ ap (mapped (low v)) (min_same v w a b l ha hb)
