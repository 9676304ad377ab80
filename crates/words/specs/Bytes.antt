-- Little-endian words in a list of bytes. Assumes nothing.
use Rattle.std.specs.Prelude.{Bool, cond, List, [], ◌∷◌, ℕ, zero, suc, ◌+◌, ◌*◌, ◌/◌, ◌%◌, leb, take, drop, length}
use Rattle.std.proofs.lemmas.List.Edits.{sets}

-- the number whose little-endian bytes are given
unfoldable pub value_of : List ℕ → ℕ
value_of [] = 0
value_of (b ∷ bs) = b + 256 * value_of bs

-- the n little-endian bytes of a number
unfoldable pub bytes_of : ℕ → ℕ → List ℕ
bytes_of zero v = []
bytes_of (suc n) v = v % 256 ∷ bytes_of n (v / 256)

-- a word of a record has 8 bytes, whatever the width
abbrev pub word_length : ℕ
word_length = 8

-- the word whose first byte stands at i, and the bytes of a word
abbrev pub word_at : List ℕ → ℕ → ℕ
word_at s i = value_of (take word_length (drop i s))

abbrev pub word_bytes : ℕ → List ℕ
word_bytes v = bytes_of word_length v

-- whether the word whose first byte would stand at i is among the bytes
abbrev pub has_word : List ℕ → ℕ → Bool
has_word s i = leb (i + word_length) (length s)

-- `read_word`: that word, 0 where it is not among them
unfoldable pub read_for : List ℕ → ℕ → ℕ
read_for s i = cond (has_word s i) (word_at s i) 0

-- `put_word`: the bytes after it; where the word is not among them, as they were
unfoldable pub put_into : List ℕ → ℕ → ℕ → List ℕ
put_into s i v = cond (has_word s i) (sets s i (word_bytes v)) s
