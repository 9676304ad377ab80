-- Each number of document 02's list is given: a pair of layouts for each, and pairs of which two reasons hold, where the one tested
-- first gives its number. At 64 bits, with the ported comparison. Assumes nothing.
use mathlib.Core.Path.{◌≡◌, refl}
use mathlib.Core.Bool.{true, false}
use mathlib.Core.List.{List, [], ◌∷◌}
use Prim.Native.Nat.{ℕ}
use Rattle.util_defs.specs.Power.{power_of_two}
use Rattle.util_defs.specs.Round.{up, down}
use Rattle.util_defs.specs.Refusal.{Outcome, refused, unless}
use Rattle.rounding.specs.Word.{highest_bit}
use Rattle.trailing_defs.specs.Size.{size_with}
use Rattle.trailing_defs.specs.Count.{bytes_within, count_within}
use Rattle.trailing_defs.specs.Sequence.{same_sequence}
use Rattle.trailing_defs.specs.Calls.{advanced}
use Rattle.layout_defs.specs.Layout.{fixed, trailing, Layout}
use Rattle.cast_defs.specs.Cast.{cast_for}
use Rattle.cast_defs.specs.Exact.{exact_for}
use Rattle.shift_defs.specs.Match.{match_test}
use Rattle.shift_defs.specs.Shift.{shift_of}
use Rattle.convert_defs.specs.Convert.{Params, compute_for}

abbrev sized : (align size : ℕ) → Layout
sized a s = record { align = a; info = fixed s; mark = true; modifier = false }

abbrev slice : (align base word elem : ℕ) → Layout
slice a b n e = record { align = a; info = trailing (record { offset = 0; elem = e; base = b; word = n }); mark = true; modifier = false }

abbrev gives : Layout → Layout → Outcome Params
gives s t = compute_for 64 (same_sequence 64) s t

abbrev given : List (Outcome Params)
given =
    gives (sized 4 16) (sized 8 16)
    ∷ gives (sized 4 16) (sized 8 12)
    ∷ gives (sized 4 16) (sized 4 12)
    ∷ gives (slice 4 16 4 4) (sized 4 16)
    ∷ gives (sized 4 15) (slice 4 8 4 8)
    ∷ gives (sized 4 16) (slice 4 16 4 0)
    ∷ gives (slice 4 8 4 0) (slice 4 8 4 0)
    ∷ gives (slice 4 8 4 0) (slice 4 8 4 4)
    ∷ gives (slice 4 8 4 2) (slice 4 8 4 3)
    ∷ gives (slice 4 8 4 5) (slice 4 8 4 3)
    ∷ gives (slice 1 0 1 2) (slice 1 1 1 2)
    ∷ []

pub numbers_given : given ≡ (
    refused 25 ∷ refused 25 ∷ refused 26 ∷ refused 27 ∷ refused 28 ∷ refused 28 ∷ refused 29 ∷ refused 30 ∷ refused 30 ∷ refused 31 ∷ refused 32 ∷ []
    )
unfolding power_of_two up down unless highest_bit size_with bytes_within count_within same_sequence advanced cast_for exact_for match_test shift_of compute_for
numbers_given = refl
