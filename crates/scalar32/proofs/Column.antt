-- The column of powers, and what it says at each code. Assumes nothing.
use mathlib.Core.Path.{◌≡◌, refl}
use Prim.Native.Nat.{ℕ, zero, suc, ◌+◌, ◌*◌, ◌/◌, ◌%◌, ◌^◌, ◌<◌, min}
use native.Mathlib.Omega.{arith}
use lib.Bits.{bit_and, and_le_r}
use lib.ListN.{get_or}
use Rattle.scalar32.specs.Target.{target32, greatest_scalar_align}

-- the column, as the code has it: the powers of the sizes, two bits for each code, that of code 0 lowest
abbrev powers : ℕ
powers = 0 + 4 * (1 + 4 * (2 + 4 * (3 + 4 * (2 + 4 * (3 + 4 * (2 + 4 * (0 + 4 * 2)))))))

-- the power at a code
abbrev pub power_at : ℕ → ℕ
power_at code = bit_and (powers / 2 ^ (2 * code)) 3

pub power_below : (code : ℕ) → power_at code < 32
power_below code = omega (arith, and_le_r (powers / 2 ^ (2 * code)) 3)

-- two to the power is the scalar's size
pub size_at_lem : (code : ℕ) → code < 9 → 1 * 2 ^ power_at code % 2 ^ 32 ≡ get_or target32.sizes code 0
size_at_lem zero h = refl
size_at_lem (suc zero) h = refl
size_at_lem (suc (suc zero)) h = refl
size_at_lem (suc (suc (suc zero))) h = refl
size_at_lem (suc (suc (suc (suc zero)))) h = refl
size_at_lem (suc (suc (suc (suc (suc zero))))) h = refl
size_at_lem (suc (suc (suc (suc (suc (suc zero)))))) h = refl
size_at_lem (suc (suc (suc (suc (suc (suc (suc zero))))))) h = refl
size_at_lem (suc (suc (suc (suc (suc (suc (suc (suc zero)))))))) h = refl
size_at_lem (suc (suc (suc (suc (suc (suc (suc (suc (suc b))))))))) h = absurd (omega (arith, h))

-- the alignment of a scalar is its size, or the greatest where the size is greater
pub aligned_by_size : (code : ℕ) → code < 9 → min (get_or target32.sizes code 0) greatest_scalar_align ≡ get_or target32.aligns code 0
aligned_by_size zero h = refl
aligned_by_size (suc zero) h = refl
aligned_by_size (suc (suc zero)) h = refl
aligned_by_size (suc (suc (suc zero))) h = refl
aligned_by_size (suc (suc (suc (suc zero)))) h = refl
aligned_by_size (suc (suc (suc (suc (suc zero))))) h = refl
aligned_by_size (suc (suc (suc (suc (suc (suc zero)))))) h = refl
aligned_by_size (suc (suc (suc (suc (suc (suc (suc zero))))))) h = refl
aligned_by_size (suc (suc (suc (suc (suc (suc (suc (suc zero)))))))) h = refl
aligned_by_size (suc (suc (suc (suc (suc (suc (suc (suc (suc b))))))))) h = absurd (omega (arith, h))
