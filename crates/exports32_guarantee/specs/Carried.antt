-- How the answers of a conversion at 32 bits and of the casts after it cross to C. Assumes nothing.
use Rattle.util_defs.specs.Refusal.{Outcome, answered, refused}
use Rattle.guarantee.specs.Demand.{Answers}
use Rattle.exports32_numbers.specs.Numbers.{number_out32}
use Rattle.exports32_converts.specs.Converts.{cast_out32, params_out32}
use Rattle.exports32_guarantee.specs.declared.CarriedOut32.{CarriedOut32}

-- the four answers of `convert_and_cast`; a layout that is refused refuses all four
abbrev pub carried_out32 : Outcome Answers → CarriedOut32
carried_out32 (answered r) = record {
  computed = params_out32 r.computed;
  count = number_out32 r.count;
  first = cast_out32 r.first;
  second = cast_out32 r.second;
}
carried_out32 (refused k) = record {
  computed = params_out32 (refused k);
  count = number_out32 (refused k);
  first = cast_out32 (refused k);
  second = cast_out32 (refused k);
}
