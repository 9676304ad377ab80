-- What a line has beside the answers of one export: whether, words of what was written, and the member that is looked at.
-- Assumes nothing.
use Rattle.std.specs.Prelude.{Bool, cond, List, [], ◌∷◌, ℕ, ◌+◌, ◌%◌, eqb, ltb}
use Rattle.words.specs.Bytes.{read_for}
use Rattle.exports_short.specs.declared.MovedOut.{MovedOut}

-- a test has no refusal
abbrev pub test_numbers : Bool → List ℕ
test_numbers b = 0 ∷ cond b 1 0 ∷ []

-- five words of bytes from one on, and ten
abbrev pub five_words : List ℕ → ℕ → List ℕ
five_words s i = read_for s i ∷ read_for s (i + 8) ∷ read_for s (i + 16) ∷ read_for s (i + 24) ∷ read_for s (i + 32) ∷ []

abbrev pub ten_words : List ℕ → ℕ → List ℕ
ten_words s i =
    read_for s i ∷ read_for s (i + 8) ∷ read_for s (i + 16) ∷ read_for s (i + 24) ∷ read_for s (i + 32) ∷ five_words s (i + 40)

abbrev pub short_numbers : ℕ → List ℕ → List ℕ
short_numbers refusal s = refusal ∷ five_words s 0

abbrev pub moved_numbers : MovedOut → List ℕ → ℕ → List ℕ
moved_numbers a s i = a.refusal ∷ a.place ∷ a.written ∷ ten_words s i

-- the member at a place, round and round through so many; the first where there are none, or a slice of 16 has it not
abbrev pub chosen : ℕ → ℕ → ℕ
chosen at count = cond (eqb count 0) 0 (cond (ltb (at % count) 16) (at % count) 0)
