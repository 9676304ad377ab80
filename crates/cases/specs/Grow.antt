-- What the recursion over the slots left writes, by the numbers that it is handed; its bytes are those of the cases
-- (`grown_cases`). Assumes nothing.
use Rattle.std.specs.Prelude.{List, ◌++◌, ℕ, zero, suc, ◌+◌, ◌-◌, ◌*◌, ◌^◌}
use Rattle.words.specs.Bytes.{word_bytes}

-- a record as its word v, under each packing: that is the second byte
abbrev pub list_bytes : ℕ → List ℕ
list_bytes v = word_bytes v ++ word_bytes (v + 256) ++ word_bytes (v + 512) ++ word_bytes (v + 1024) ++ word_bytes (v + 2048)

-- with k slots left, of which the first is the byte s of the record so far, v: that byte is 255, and becomes 0, 1, 2 and 3
unfoldable pub grown_bytes : ℕ → ℕ → ℕ → List ℕ
grown_bytes zero s v = list_bytes v
grown_bytes (suc k) s v =
    grown_bytes k (s + 1) (v - 255 * 256 ^ s)
    ++ grown_bytes k (s + 1) (v - 255 * 256 ^ s + 256 ^ s)
    ++ grown_bytes k (s + 1) (v - 255 * 256 ^ s + 2 * 256 ^ s)
    ++ grown_bytes k (s + 1) (v - 255 * 256 ^ s + 3 * 256 ^ s)
