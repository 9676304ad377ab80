-- How the answers of a conversion and of the casts after it cross to C. Assumes nothing.
use Rattle.util_defs.specs.Refusal.{Outcome, answered, refused}
use Rattle.guarantee.specs.Demand.{Answers}
use Rattle.exports_numbers.specs.Numbers.{number_out}
use Rattle.exports_converts.specs.Converts.{cast_out, params_out}
use Rattle.exports_guarantee.specs.declared.CarriedOut.{CarriedOut}

-- the four answers of `convert_and_cast`; a layout that is refused refuses all four
abbrev pub carried_out : Outcome Answers → CarriedOut
carried_out (answered r) = record {
  computed = params_out r.computed;
  count = number_out r.count;
  first = cast_out r.first;
  second = cast_out r.second;
}
carried_out (refused k) = record {
  computed = params_out (refused k);
  count = number_out (refused k);
  first = cast_out (refused k);
  second = cast_out (refused k);
}
