-- Worked cases of request 9 of document 02, at 64 bits. Each computes. Assumes nothing.
use mathlib.Core.Path.{◌≡◌, refl}
use mathlib.Core.Bool.{true, false}
use Prim.Native.Nat.{ℕ, ◌+◌, ◌-◌, ◌^◌}
use Rattle.util_defs.specs.Round.{up}
use Rattle.util_defs.specs.Refusal.{answered, refused, unless}
use Rattle.rounding.specs.Word.{highest_bit}
use Rattle.trailing_defs.specs.Size.{Trailing, size_with}
use Rattle.trailing_defs.specs.Sequence.{same_sequence}
use Rattle.full_defs.specs.Full.{lowest_bit, sizes_agree}
use Rattle.full_defs.specs.Form.{form, form_of, form_for}

abbrev layout : (b A p e : ℕ) → Trailing
layout b A p e = record { offset = 0; elem = e; base = b; word = A + p }

-- A 8, e 4, b 0, phases 1 and 2: no by the ported comparison, yes by the full one
phases_1_2 :
    (same_sequence 64 (layout 0 8 1 4) (layout 0 8 2 4) ≡ false) × (sizes_agree 64 (layout 0 8 1 4) (layout 0 8 2 4) ≡ true)
unfolding same_sequence sizes_agree lowest_bit highest_bit size_with up
phases_1_2 = (refl, refl)

-- bases 8 apart, with phases 5 and 0; sizes that are equal and pass M; sizes equal at 0 and at multiples of 8 only
agreements :
    (sizes_agree 64 (layout 0 8 5 4) (layout 8 8 0 4) ≡ true)
    × ((sizes_agree 64 (layout (2 ^ 64 - 8) 8 1 1) (layout (2 ^ 64 - 8) 8 1 1) ≡ true)
    × (sizes_agree 64 (layout 0 8 0 1) (layout 0 4 0 1) ≡ false))
unfolding sizes_agree lowest_bit highest_bit size_with up
agreements = (refl, (refl, refl))

-- phase 2 is 1; phase 5 goes to the base; A that divides e is 1, for e 0 too
forms :
    (form_for 64 (layout 0 8 2 4) ≡ answered (form 0 9 4))
    × ((form_for 64 (layout 0 8 5 4) ≡ answered (form 8 8 4))
    × ((form_for 64 (layout 0 8 5 16) ≡ answered (form 8 1 16)) × (form_for 64 (layout 3 8 7 0) ≡ answered (form 11 1 0))))
unfolding form_for form_of unless lowest_bit highest_bit size_with up
forms = (refl, (refl, (refl, refl)))

-- neither layout has a size at 0: the first has a form, and 46 refuses the second, which can be compared all the same
past_M :
    ((form_for 64 (layout (2 ^ 64 - 8) 8 1 1) ≡ answered (form (2 ^ 64 - 8) 9 1)) × (form_for 64 (layout (2 ^ 64 - 8) 8 1 8) ≡ refused 46))
    × (sizes_agree 64 (layout (2 ^ 64 - 8) 8 1 8) (layout (2 ^ 64 - 4) 4 1 8) ≡ true)
unfolding sizes_agree form_for form_of unless lowest_bit highest_bit size_with up
past_M = ((refl, refl), refl)
