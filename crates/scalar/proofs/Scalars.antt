-- Scalars by code. Assumes nothing.
use mathlib.Core.Path.{◌≡◌, refl}
use Prim.Native.Nat.{ℕ}
use lib.ListN.{get_or}
use Rattle.util_defs.specs.Refusal.{Meets}
use Rattle.util_defs.proofs.Refusals.{tells_lt, meets}
use Rattle.scalar.specs.Scalar.{Target, target64, scalar_causes, scalar_layout, scalar_for}

pub scalar_meets : (target : Target) (code : ℕ) → Meets (scalar_causes code) (λ l. l ≡ scalar_layout target code) (scalar_for target code)
unfolding scalar_for
scalar_meets target code = meets (scalar_causes code) (scalar_layout target code) (tells_lt 8 code, λ _. tt) (λ _. refl)

-- on the 64-bit target the alignment of a scalar is its size
pub aligned_by_size : (code : ℕ) → get_or target64.aligns code 0 ≡ get_or target64.sizes code 0
aligned_by_size code = refl
