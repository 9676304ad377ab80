-- What a conversion gives at fewer bits, whose greatest number is m, by what it gives at more. Assumes nothing.
use Rattle.std.specs.Prelude.{Bool, true, cond, ℕ, leb}
use Rattle.util_defs.specs.Refusal.{Outcome}
use Rattle.layout_defs.specs.Layout.{Info, fixed, trailing}
use Rattle.shift_defs.specs.Shift.{Shift, by, missing}
use Rattle.convert_defs.specs.Convert.{Params}
use Rattle.widths_defs.specs.Low.{low}
use Rattle.widths_defs.specs.Within.{limited, has_start}

-- whether v bits hold the size at 0, as they do of a fixed layout whose size they hold
abbrev pub starts_in : ℕ → Info → Bool
starts_in v (fixed s) = true
starts_in v (trailing t) = has_start v t

-- `try_compute`: 32, no shift, where the source has no size at 0
abbrev pub compute_within : Bool → Outcome Params → Outcome Params
compute_within start o = limited 32 (λ _. start) o

-- `cast_metadata`: 19 where the count passes m
abbrev pub metadata_within : ℕ → Outcome ℕ → Outcome ℕ
metadata_within m o = limited 19 (λ n. leb n m) o

-- `offset_delta_elems`: none where the source has no size at 0; and what v bits keep of a shift
abbrev pub shift_within : Bool → Shift → Shift
shift_within start sh = cond start sh missing

abbrev pub low_shift : ℕ → Shift → Shift
low_shift v (by d) = by (low v d)
low_shift v missing = missing
