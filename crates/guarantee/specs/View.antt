-- What the answers of the four calls are, over numbers. Assumes nothing.
use Prim.Native.Nat.{ℕ}
use Rattle.util.specs.View.{number_says}
use Rattle.cast.specs.View.{cast_says}
use Rattle.convert.specs.View.{compute_says}
use Rattle.guarantee.specs.Demand.{Answers}
use Rattle.guarantee.specs.declared.Carried.{Carried}

abbrev pub answers_in : Carried ℕ → Answers
answers_in r = record {
  computed = compute_says r.computed;
  count = number_says r.count;
  first = cast_says r.first;
  second = cast_says r.second;
}
