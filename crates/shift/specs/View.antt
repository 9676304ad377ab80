-- What the types of this crate are, over numbers: document 01's number and values for each case of an answer. Assumes nothing.
use Rattle.std.specs.Prelude.{ℕ, Option, Some, None, Result}
use Rattle.util.specs.View.{says}
use Rattle.util.specs.declared.refusal.Refusal.{Refusal}
use Rattle.util_defs.specs.Refusal.{Outcome}
use Rattle.shift_defs.specs.Mode.{Mode, ported, full}
use Rattle.shift_defs.specs.Shift.{Shift, by, missing}
use Rattle.shift.specs.declared.Mode as Given
use Rattle.shift.specs.declared.Mode.TheVariants as Mode

abbrev pub mode_of : Given.Mode → Mode
mode_of Mode.Ported = ported
mode_of Mode.Full = full

-- the shift that was found
abbrev pub shift_in : Option ℕ → Shift
shift_in (Some d) = by d
shift_in None = missing

abbrev pub shift_says : Result (Option ℕ) Refusal → Outcome Shift
shift_says = says shift_in
