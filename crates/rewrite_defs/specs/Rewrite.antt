-- Rewriting a description (document 02, request 8): every 17 turned into 19, or every 19 into 17. Assumes nothing.
use Rattle.std.specs.Prelude.{Bool, false, cond, List, [], ◌∷◌, ◌++◌, map, ℕ, ◌+◌, ltb, leb, length, take, drop}
use Rattle.util_defs.specs.Placed.{Placed, reached, stopped, go_on}
use Rattle.scalar.specs.Scalar.{Target}
use Rattle.words.specs.Bytes.{value_of}
use Rattle.describe_defs.specs.Describe.{Counted, by_one, by_two, struct_tag, described_for}
use Rattle.rewrite_defs.specs.Heads.{heads_of, has_tag, joined}

-- the two ways: each 17 into 19, and back
pub data Way : Type 0 where
  longer : Way
  shorter : Way

-- which structs are turned, and into which
abbrev pub from : Way → Counted
from longer = by_one
from shorter = by_two

abbrev pub into : Way → Counted
into longer = by_two
into shorter = by_one

abbrev pub back : Way → Way
back longer = shorter
back shorter = longer

-- what stands behind the tag: alignment, packing and the count, which gets a high byte of 0, or loses it
abbrev pub turned_tail : Way → List ℕ → List ℕ
turned_tail longer h = h ++ (0 ∷ [])
turned_tail shorter h = take 3 h

-- a head that is turned, and any other as it is
abbrev pub turned_head : Way → List ℕ → List ℕ
turned_head way h = cond (has_tag (struct_tag (from way)) h) (struct_tag (into way) ∷ turned_tail way (drop 1 h)) h

abbrev pub rewritten : Way → List ℕ → List ℕ
rewritten way s = joined (map (turned_head way) (heads_of s))

-- the greatest count of one byte, and the count of a struct's head
abbrev pub greatest_byte : ℕ
greatest_byte = 255

abbrev pub count_of : List ℕ → ℕ
count_of h = value_of (drop 3 h)

-- "when the way back meets a count above 255"
abbrev pub count_above : Way → List ℕ → Bool
count_above longer h = false
count_above shorter h = cond (has_tag (struct_tag by_two) h) (ltb greatest_byte (count_of h)) false

-- heads from a place on, whose counts fit: 44 at the first tag of one that does not
unfoldable pub counts_fit : Way → ℕ → List (List ℕ) → Placed (Unit {0})
counts_fit way i [] = reached tt
counts_fit way i (h ∷ hs) = cond (count_above way h) (stopped 44 i) (counts_fit way (i + length h) hs)

-- a rewriting into m bytes: the reader's refusals first; then 44; then 45, at 0, where the output is too short. It gives the
-- bytes that are written
abbrev pub room_for : List ℕ → ℕ → Placed (List ℕ)
room_for r m = cond (leb (length r) m) (reached r) (stopped 45 0)

unfoldable pub rewrite_for : ℕ → Target → Way → List ℕ → ℕ → Placed (List ℕ)
rewrite_for w target way s m =
    go_on (described_for w target s) (λ _. go_on (counts_fit way 0 (heads_of s)) (λ _. room_for (rewritten way s) m))

-- "The answer .. is the number of bytes written"
abbrev pub bytes_for : ℕ → Target → Way → List ℕ → ℕ → Placed ℕ
bytes_for w target way s m = go_on (rewrite_for w target way s m) (λ r. reached (length r))

-- the output after it: "Output past the result is untouched", "no refusal writes"
abbrev pub filled : Placed (List ℕ) → List ℕ → List ℕ
filled (reached r) out = r ++ drop (length r) out
filled (stopped k i) out = out
