-- Lists of records moved from one form to the other between two lent buffers (document 02, request 6). Assumes nothing.
use Rattle.std.specs.Prelude.{◌≡◌, not, List, [], ◌∷◌, ◌++◌, ℕ, zero, suc, ◌*◌, ◌/◌, ◌%◌, ◌<◌, eqb, ltb, length, take, drop}
use Rattle.util_defs.specs.Refusal.{Cause}
use Rattle.util_defs.specs.Placed.{Placed, reached, stopped, at_place, go_on, judged}
use Rattle.record_defs.specs.Record.{record_length, words_at, record_bytes}
use Rattle.short_defs.specs.Short.{short_length, short_at, short_bytes, short_of, words_from, to_short_causes, from_short_causes}

-- a way to move records: the bytes of one and of its other form, what refuses one, and its other form
pub record Way : Type 1 where
  pub from : ℕ
  pub to : ℕ
  pub causes : List ℕ → List Cause
  pub moved : List ℕ → List ℕ

-- old to new, and new to old
abbrev pub to_short : Way
to_short = record {
  from = record_length;
  to = short_length;
  causes = λ s. to_short_causes (words_at s 0);
  moved = λ s. short_bytes (short_of (words_at s 0));
}

abbrev pub from_short : Way
from_short = record {
  from = short_length;
  to = record_length;
  causes = λ s. from_short_causes (short_at s 0);
  moved = λ s. record_bytes (words_from (short_at s 0));
}

-- the records of a list: how many, and the one with the index i
abbrev pub count_of : Way → List ℕ → ℕ
count_of v s = length s / v.from

abbrev pub record_of : ℕ → List ℕ → ℕ → List ℕ
record_of n s i = take n (drop (i * n) s)

-- 20: the list is no whole number of records; 41: the output, of m bytes, is too short
abbrev pub no_whole_records : Way → List ℕ → Cause
no_whole_records v s = record { number = 20; test = not (eqb (length s % v.from) 0); means = length s % v.from ≡ 0 → ⊥ }

abbrev pub output_short : Way → List ℕ → ℕ → Cause
output_short v s m = record { number = 41; test = ltb m (count_of v s * v.to); means = m < count_of v s * v.to }

abbrev pub length_causes : Way → List ℕ → ℕ → List Cause
length_causes v s m = no_whole_records v s ∷ output_short v s m ∷ []

-- the first of n records that is refused, of which the first has the index i
unfoldable pub tested : Way → ℕ → ℕ → List ℕ → Placed (Unit {0})
tested v i zero s = reached tt
tested v i (suc n) s = at_place i (judged (v.causes (take v.from s))) (λ _. tested v (suc i) n (drop v.from s))

-- n records in their other form, end to end
unfoldable pub moved_all : Way → ℕ → List ℕ → List ℕ
moved_all v zero s = []
moved_all v (suc n) s = v.moved (take v.from s) ++ moved_all v n (drop v.from s)

-- a move: "lengths first, then records in turn, whole list or nothing". It gives the bytes that are written
unfoldable pub move_for : Way → List ℕ → ℕ → Placed (List ℕ)
move_for v s m =
    at_place 0 (judged (length_causes v s m))
    (λ _. go_on (tested v 0 (count_of v s) s) (λ _. reached (moved_all v (count_of v s) s)))

-- "The answer .. is the number of bytes written"
abbrev pub moved_for : Way → List ℕ → ℕ → Placed ℕ
moved_for v s m = go_on (move_for v s m) (λ bs. reached (length bs))

-- the output after it: "The output's tail past the moved records is untouched"; a refusal writes nothing
abbrev pub filled : Placed (List ℕ) → List ℕ → List ℕ
filled (reached bs) out = bs ++ drop (length bs) out
filled (stopped k i) out = out
