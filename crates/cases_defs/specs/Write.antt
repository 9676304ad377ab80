-- `write_cases`: all cases of up to n members into a lent buffer. Assumes nothing.
use Rattle.std.specs.Prelude.{◌≡◌, List, [], ◌∷◌, ◌++◌, ℕ, ◌*◌, ◌<◌, ltb, length, drop}
use Rattle.util_defs.specs.Refusal.{Outcome, answered, refused, Cause, unless, None, First}
use Rattle.cases_defs.specs.Cases.{Case, cases_to, greatest_length, case_length, cases_bytes}
use Rattle.cases_defs.specs.Order.{AllCases}

-- 47: the length is above 6
abbrev pub length_above : ℕ → Cause
length_above n = record { number = 47; test = ltb greatest_length n; means = greatest_length < n }

-- 48: a buffer of m bytes cannot hold all of them
abbrev pub buffer_short : (n m : ℕ) → Cause
buffer_short n m = record {
  number = 48;
  test = ltb m (case_length * length (cases_to n));
  means = m < case_length * length (cases_to n);
}

abbrev pub write_causes : (n m : ℕ) → List Cause
write_causes n m = length_above n ∷ buffer_short n m ∷ []

-- the bytes that are written
unfoldable pub cases_for : (n m : ℕ) → Outcome (List ℕ)
cases_for n m = unless (write_causes n m) (cases_bytes (cases_to n))

-- the answer is their number
abbrev pub count_written : Outcome (List ℕ) → Outcome ℕ
count_written (answered bs) = answered (length bs)
count_written (refused k) = refused k

-- "the buffer past the last case is untouched"; a refusal writes nothing
abbrev pub filled_with : Outcome (List ℕ) → List ℕ → List ℕ
filled_with (answered bs) old = bs ++ drop (length bs) old
filled_with (refused k) old = old

-- what it means: the buffer begins with the records of all cases, and behind them it is as it was
pub record Written (n : ℕ) (old new : List ℕ) (b : ℕ) : Type 0 where
  pub cases : List Case
  pub all : AllCases n cases
  pub bytes : new ≡ cases_bytes cases ++ drop b old
  pub count : b ≡ case_length * length cases

abbrev pub WriteMeans : ℕ → List ℕ → List ℕ → Outcome ℕ → Type 0
WriteMeans n old new (answered b) = None (write_causes n (length old)) × Written n old new b
WriteMeans n old new (refused k) = First (write_causes n (length old)) k × (new ≡ old)
