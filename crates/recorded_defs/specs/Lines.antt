-- Recorded answers: a line is decimal numbers with single spaces between. Assumes nothing.
use Rattle.std.specs.Prelude.{Bool, true, false, cond, List, [], ◌∷◌, ℕ, zero, suc, ◌+◌, ◌-◌, ◌*◌, ◌++◌, eqb, ltb, drop}
use Rattle.std.specs.Prelude.{get_or, set, replicate, take, ◌/◌, Option, Some, None}
use Rattle.util_defs.specs.Width.{M}
use Rattle.words.specs.Bytes.{word_bytes}

-- the value of a digit in ASCII, and 10 for any other byte
abbrev pub digit_of : ℕ → ℕ
digit_of b = cond (ltb b 48) 10 (cond (ltb 57 b) 10 (b - 48))

-- a number, whether the line ends behind it, and where the next one starts; or there is no number
pub data Number : Type 0 where
  number : (value : ℕ) (last : Bool) (next : ℕ) → Number
  none : Number

-- the number before a byte that is no digit: some digits, then a space or the end of the line
abbrev pub end_of : ℕ → Bool → ℕ → ℕ → Number
end_of v digits b next = cond digits (cond (eqb b 32) (number v false next) (cond (eqb b 10) (number v true next) none)) none

-- the number that goes on at a place with these bytes, v so far; it is at most the greatest of 64 bits
unfoldable pub number_from : ℕ → Bool → ℕ → List ℕ → Number
number_from v digits at [] = none
number_from v digits at (b ∷ bs) =
    cond (ltb 9 (digit_of b)) (end_of v digits b (at + 1))
    (cond (ltb (M 64) (v * 10 + digit_of b)) none (number_from (v * 10 + digit_of b) true (at + 1) bs))

-- a line: its numbers, 0 after them, how many they are, and where the next line starts; or it does not read as numbers
pub data Read : Type 0 where
  line : (numbers : List ℕ) (count next : ℕ) → Read
  unread : Read

abbrev pub and_then : Number → (ℕ → Bool → ℕ → Read) → Read
and_then (number v last next) f = f v last next
and_then none f = unread

-- the line that goes on at a place, with so many numbers so far and room for k more
unfoldable pub line_from : ℕ → List ℕ → ℕ → List ℕ → ℕ → Read
line_from zero s at ns count = unread
line_from (suc k) s at ns count =
    and_then (number_from 0 false at (drop at s)) (λ v last next.
    cond last (line (set ns count v) (count + 1) next) (line_from k s next (set ns count v) (count + 1)))

-- the line that starts at a place: 64 numbers at most
abbrev pub line_at : List ℕ → ℕ → Read
line_at s from = line_from 64 s from (replicate 64 0) 0

-- k numbers of a list from i on are those of another from j on
unfoldable pub same_from : ℕ → List ℕ → ℕ → List ℕ → ℕ → Bool
same_from zero xs i ys j = true
same_from (suc k) xs i ys j = cond (eqb (get_or xs i 0) (get_or ys j 0)) (same_from k xs (i + 1) ys (j + 1)) false

-- a line of so many numbers is the function's, its inputs, and then the first numbers that were told
abbrev pub agrees_with : List ℕ → ℕ → ℕ → ℕ → List ℕ → Bool
agrees_with ns count inputs k told =
    cond (ltb 64 count) false
    (cond (ltb 13 k) false
    (cond (eqb count (1 + inputs + k)) (same_from k ns (1 + inputs) told 0) false))

-- one more, where 64 bits hold it
abbrev pub one_more : ℕ → ℕ
one_more n = cond (ltb n (M 64)) (n + 1) n

-- the bytes of k words of a line from one on
unfoldable pub bytes_from : ℕ → List ℕ → ℕ → List ℕ
bytes_from zero ns from = []
bytes_from (suc k) ns from = bytes_from k ns from ++ word_bytes (get_or ns (from + k) 0)

-- the bytes that a line lends, and how many numbers there are up to the last of theirs: their number stands at a place, and is
-- at most 384, the words that hold them behind it
abbrev pub lent_at : List ℕ → ℕ → Option (List ℕ × ℕ)
lent_at ns at =
    let n = get_or ns at 0 in cond (ltb 384 n) None (Some (take n (bytes_from 48 ns (at + 1)), at + (n + 7) / 8))

-- those that a line of 64 numbers lends: none, where it has no 48 behind that place
abbrev pub lent_within : List ℕ → ℕ → Option (List ℕ × ℕ)
lent_within ns at = cond (ltb 15 at) None (lent_at ns at)
