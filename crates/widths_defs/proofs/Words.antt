-- Rounding words at v bits, by w: the same. Assumes nothing.
use mathlib.Core.Path.{◌≡◌, ap, ◌∙◌}
use Prim.Native.Nat.{ℕ, ◌+◌, ◌^◌, ◌≤◌, ◌<◌}
use native.Mathlib.Nat.{mod-eq_of_lt}
use native.Mathlib.Omega.{arith}
use Rattle.util_defs.specs.Refusal.{unless}
use Rattle.util_defs.proofs.Refusals.{tells_eq, tells_le}
use Rattle.util_defs.proofs.Powers.{double}
use Rattle.util_defs.proofs.Helpers.{power, align_decided}
use Rattle.rounding.specs.Word.{align_of, phase_of, new_causes, word_causes, new_for, components_for, align_for}
use Rattle.rounding.proofs.Words.{parts_of_lem}
use Rattle.widths_defs.specs.Low.{mapped, low, low_parts}
use Rattle.widths_defs.proofs.Widths.{same_power, same_highest, unless_same}

-- `new`
pub new_same : (v w a p : ℕ) → v ≤ w → a < 2 ^ v → new_for v a p ≡ new_for w a p
unfolding new_for unless
new_same v w a p l h = simp (same_power v w a l h)

pub new_low : (v w a p : ℕ) → v ≤ w → a < 2 ^ v → new_for v a p ≡ mapped (low v) (new_for w a p)
unfolding new_for
new_low v w a p l h =
    unless_same (low v) (new_causes v a p) (a + p) (align_decided v a h, λ _. (tells_le a p, λ _. tt))
    (λ n. mod-eq_of_lt (omega (arith, n.1.0, double v (power v a h n.0) h))) ∙ ap (mapped (low v)) (new_same v w a p l h)

-- `components`
pub components_same : (v w n : ℕ) → v ≤ w → n < 2 ^ v → components_for v n ≡ components_for w n
unfolding components_for
components_same v w n l h = simp (same_highest v w n l h)

pub components_low : (v w n : ℕ) → v ≤ w → n < 2 ^ v → components_for v n ≡ mapped (low_parts v) (components_for w n)
unfolding components_for
components_low v w n l h =
    unless_same (low_parts v) (word_causes n) (record { align = align_of v n; phase = phase_of v n }) (tells_eq n 0, λ _. tt)
    (λ z.
    let x = parts_of_lem v n (omega (arith, z.0)) h in
    let a : align_of v n < 2 ^ v = omega (arith, x.sum) in
    let q : phase_of v n < 2 ^ v = omega (arith, x.sum) in
    simp (mod-eq_of_lt a, mod-eq_of_lt q))
    ∙ ap (mapped (low_parts v)) (components_same v w n l h)

-- `align`
pub align_same : (v w n : ℕ) → v ≤ w → n < 2 ^ v → align_for v n ≡ align_for w n
unfolding align_for
align_same v w n l h = simp (same_highest v w n l h)

pub align_low : (v w n : ℕ) → v ≤ w → n < 2 ^ v → align_for v n ≡ mapped (low v) (align_for w n)
unfolding align_for
align_low v w n l h =
    unless_same (low v) (word_causes n) (align_of v n) (tells_eq n 0, λ _. tt) (λ z. mod-eq_of_lt (omega (arith, (parts_of_lem v n (omega (arith, z.0)) h).sum)))
    ∙ ap (mapped (low v)) (align_same v w n l h)
