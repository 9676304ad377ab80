-- The scalars of the 32-bit target are layouts at 32 bits, so that the reader's laws hold with them. Assumes nothing.
use mathlib.Core.Path.{refl, subst}
use Prim.Native.Nat.{ℕ, zero, suc, ◌*◌, ◌^◌, ◌≤◌, ◌<◌}
use native.Mathlib.Nat.{mod-lt}
use native.Mathlib.Omega.{arith}
use lib.ListN.{get_or}
use lib.Pow.{pow_pos}
use Rattle.util_defs.specs.Power.{power_of_two}
use Rattle.util_defs.specs.Refusal.{unless}
use Rattle.layout_defs.specs.Layout.{check_for}
use Rattle.scalar.specs.Scalar.{scalar_layout}
use Rattle.record_defs.specs.Record.{words_of, FitsIn}
use Rattle.record_defs.proofs.RoundTrips.{Fits}
use Rattle.describe_defs.specs.Faults.{ScalarsAccepted}
use Rattle.describe_defs.specs.ByHand.{AsScalars}
use Rattle.describe_defs.proofs.ByHand.{as_scalars}
use Rattle.scalar32.specs.Target.{target32}
use Rattle.scalar32.proofs.Column.{power_at, size_at_lem, aligned_by_size}

pub scalars32 : ScalarsAccepted 32 target32
unfolding check_for unless power_of_two
scalars32 zero h = refl
scalars32 (suc zero) h = refl
scalars32 (suc (suc zero)) h = refl
scalars32 (suc (suc (suc zero))) h = refl
scalars32 (suc (suc (suc (suc zero)))) h = refl
scalars32 (suc (suc (suc (suc (suc zero))))) h = refl
scalars32 (suc (suc (suc (suc (suc (suc zero)))))) h = refl
scalars32 (suc (suc (suc (suc (suc (suc (suc zero))))))) h = refl
scalars32 (suc (suc (suc (suc (suc (suc (suc (suc zero)))))))) h = refl
scalars32 (suc (suc (suc (suc (suc (suc (suc (suc (suc b))))))))) h = absurd (omega (arith, h))

-- a scalar's record holds it, and so do words of 32 bits
pub held32 : (b : ℕ) → b ≤ 8 → FitsIn 32 (words_of (scalar_layout target32 b))
held32 b h =
    let c : b < 9 = omega arith in
    let x : get_or target32.sizes b 0 < 2 ^ 32 = subst (λ (n : ℕ). n < 2 ^ 32) (size_at_lem b c) (mod-lt (1 * 2 ^ power_at b) (pow_pos 32)) in
    record { align = omega (arith, aligned_by_size b c); size = omega (arith, x); offset = omega arith; elem = omega arith; word = omega arith }

fits32 : (b : ℕ) → b ≤ 8 → Fits (words_of (scalar_layout target32 b))
fits32 b h =
    let x = held32 b h in
    record { align = omega (arith, x.align); kind = omega arith; size = omega (arith, x.size); offset = omega arith; elem = omega arith; word = omega arith }

-- a struct of scalars reads as the composition of their records
pub as_scalars32 : AsScalars 32 target32
as_scalars32 = as_scalars 32 target32 scalars32 fits32 held32
