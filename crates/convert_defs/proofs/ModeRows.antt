-- Conversions in both modes, at 64 bits: worked cases, which compute. Assumes nothing.
use mathlib.Core.Path.{◌≡◌, refl}
use mathlib.Core.Bool.{true, false}
use mathlib.Core.List.{List, [], ◌∷◌}
use Prim.Native.Nat.{ℕ, ◌-◌, ◌^◌}
use Rattle.util_defs.specs.Power.{power_of_two}
use Rattle.util_defs.specs.Round.{up, down}
use Rattle.util_defs.specs.Refusal.{Outcome, answered, refused, unless}
use Rattle.rounding.specs.Word.{highest_bit}
use Rattle.trailing_defs.specs.Size.{Trailing, size_with}
use Rattle.trailing_defs.specs.Count.{bytes_within, count_within}
use Rattle.trailing_defs.specs.Sequence.{same_sequence}
use Rattle.trailing_defs.specs.Calls.{advanced}
use Rattle.full_defs.specs.Full.{lowest_bit, sizes_agree}
use Rattle.layout_defs.specs.Layout.{trailing, Layout}
use Rattle.cast_defs.specs.Cast.{cast_for}
use Rattle.cast_defs.specs.Exact.{exact_for}
use Rattle.shift_defs.specs.Match.{match_test}
use Rattle.shift_defs.specs.Mode.{ported, full, comparison_of}
use Rattle.shift_defs.specs.Shift.{shift_of}
use Rattle.convert_defs.specs.Convert.{Params, unsized_to_unsized, compute_for}

abbrev tail : (base word elem : ℕ) → Trailing
tail b n e = record { offset = 0; elem = e; base = b; word = n }

-- what each mode gives, the ported one first
abbrev both_modes : Trailing → Trailing → List (Outcome Params)
both_modes s t =
    compute_for 64 (comparison_of 64 ported) (slice s) (slice t) ∷ compute_for 64 (comparison_of 64 full) (slice s) (slice t) ∷ []
  where
    slice : Trailing → Layout
    slice t = record { align = 8; info = trailing t; mark = true; modifier = false }

-- A 8, e 4, b 0, phases 1 and 2: the full comparison says yes, and neither mode converts either way. The difference of the size
-- offsets is no whole element, and the exact count of 8 is 1, at which the sizes do not match
pub phases_1_2 :
    (sizes_agree 64 (tail 0 9 4) (tail 0 10 4) ≡ true)
    × ((both_modes (tail 0 9 4) (tail 0 10 4) ≡ (refused 32 ∷ refused 32 ∷ []))
    × (both_modes (tail 0 10 4) (tail 0 9 4) ≡ (refused 32 ∷ refused 32 ∷ [])))
unfolding power_of_two up down unless highest_bit lowest_bit size_with bytes_within count_within same_sequence sizes_agree advanced cast_for exact_for match_test shift_of compute_for
phases_1_2 = (refl, (refl, refl))

-- a pair that the full mode gains, by the second way: d 2, k 1. With elements of one byte it gains none
pub gained : both_modes (tail 0 7 2) (tail 0 4 2) ≡ (refused 32 ∷ answered (unsized_to_unsized 2 1) ∷ [])
unfolding power_of_two up down unless highest_bit lowest_bit size_with bytes_within count_within same_sequence sizes_agree advanced cast_for exact_for match_test shift_of compute_for
gained = refl

-- a source without a size at 0 converts to nothing, itself not either, though the full comparison says yes
pub no_start :
    (sizes_agree 64 (tail (2 ^ 64 - 8) 9 1) (tail (2 ^ 64 - 8) 9 1) ≡ true)
    × (both_modes (tail (2 ^ 64 - 8) 9 1) (tail (2 ^ 64 - 8) 9 1) ≡ (refused 32 ∷ refused 32 ∷ []))
unfolding power_of_two up down unless highest_bit lowest_bit size_with bytes_within count_within same_sequence sizes_agree advanced cast_for exact_for match_test shift_of compute_for
no_start = (refl, refl)
