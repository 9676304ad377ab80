-- The starred cases hold: each row but one is computed from the definitions, and that one is shown at every count. Assumes nothing.
use mathlib.Core.Path.{◌≡◌, ap}
use mathlib.Core.List.{List, [], ◌∷◌}
use Prim.Native.Nat.{ℕ}
use native.Mathlib.Omega.{arith}
use Rattle.util_defs.specs.Power.{power_of_two}
use Rattle.util_defs.specs.Round.{up, down, padding}
use Rattle.util_defs.specs.Refusal.{unless}
use Rattle.util_defs.specs.Helpers.{padding_for}
use Rattle.rounding.specs.Word.{highest_bit, components_for}
use Rattle.trailing_defs.specs.Size.{size_with, size_at}
use Rattle.trailing_defs.specs.Count.{bytes_within, count_within}
use Rattle.trailing_defs.specs.Sequence.{same_sequence}
use Rattle.trailing_defs.specs.Calls.{padding_for_elems, size_for, advanced, same_for}
use Rattle.trailing_defs.specs.Sized.{size_given}
use Rattle.cast_defs.specs.Cast.{cast_for}
use Rattle.cast_defs.specs.Exact.{exact_for}
use Rattle.shift_defs.specs.Match.{match_test}
use Rattle.shift_defs.specs.Shift.{shift_of}
use Rattle.convert_defs.specs.Convert.{compute_for, metadata_for}
use Rattle.stars.specs.Stars.{tail, within, said, Claim, computed, stars}

sizes_alike : (n : ℕ) → ◌≡◌ {A = List ℕ} (size_at 64 (tail 0 9 4 0) n ∷ []) (size_at 64 (tail 0 10 4 0) n ∷ [])
unfolding size_with up highest_bit
sizes_alike n = ap (λ (x : ℕ). x ∷ []) (omega arith)

sizes_alike32 : (n : ℕ) → ◌≡◌ {A = List ℕ} (size_at 32 (tail 0 9 4 0) n ∷ []) (size_at 32 (tail 0 10 4 0) n ∷ [])
unfolding size_with up highest_bit
sizes_alike32 n = ap (λ (x : ℕ). x ∷ []) (omega arith)

pub stars_hold : Claim 64 (stars 64) × Claim 32 (stars 32)
unfolding power_of_two up down padding unless padding_for highest_bit components_for size_with bytes_within count_within same_sequence padding_for_elems size_for size_given advanced same_for cast_for exact_for match_test shift_of compute_for metadata_for
stars_hold = (
  λ n. ap (λ (x : List ℕ). x ∷ said n (within 64 (computed 64))) (sizes_alike n),
  λ n. ap (λ (x : List ℕ). x ∷ said n (within 32 (computed 32))) (sizes_alike32 n),
)
