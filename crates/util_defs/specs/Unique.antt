-- A number is a power of two in one way: what a ghost field, of which there may be one proof, asks for. Assumes nothing.
use Rattle.std.specs.Prelude.{◌≡◌, ℕ, suc, ◌^◌, ◌≤◌}
use mathlib.Core.Path.{sym, ◌∙◌}
use mathlib.Core.HLevel.{is_prop→PathP}
use native.Mathlib.Nat.{ℕ_set, le_antisymm, lt_of_not-le, two-pow-succ}
use native.Mathlib.Omega.{arith}
use lib.Pow.{pow_pos, pow_mono}
use Rattle.util_defs.specs.Power.{PowerOfTwo}

-- the greater power has the greater exponent
pow_le_cancel : (j k : ℕ) → 2 ^ j ≤ 2 ^ k → j ≤ k
pow_le_cancel j k h =
    let no : suc k ≤ j → ⊥ = λ l. let m : 2 ^ suc k ≤ 2 ^ j = pow_mono l in omega (arith, m, two-pow-succ k, pow_pos k, h) in
    omega (arith, lt_of_not-le no)

pub power_prop : {a : ℕ} → IsProp (PowerOfTwo a)
power_prop {a} x y =
    let e : 2 ^ x.exponent ≡ 2 ^ y.exponent = sym x.power ∙ y.power in
    let k : x.exponent ≡ y.exponent = le_antisymm (pow_le_cancel x.exponent y.exponent (omega (arith, e)))
    (pow_le_cancel y.exponent x.exponent (omega (arith, e))) in
    λ i. record { exponent = k i; power = is_prop→PathP (λ j. a ≡ 2 ^ k j) (λ j. ℕ_set a (2 ^ k j)) x.power y.power i }
