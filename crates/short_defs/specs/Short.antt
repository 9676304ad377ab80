-- Records of 32 bytes, short ones (document 02, request 6): size or base, o and e as 8 bytes each, the rounding word narrowed to
-- 4, the alignment's power 1, the kind 1, two zero bytes, all little-endian. They have no width: their numbers are those of
-- 64-bit records. Assumes nothing.
use Rattle.std.specs.Prelude.{◌≡◌, cond, not, ◌||◌, List, [], ◌∷◌, ◌++◌, ◌⊎◌, ℕ, zero, suc, ◌+◌, ◌*◌, ◌^◌, ◌<◌, eqb, ltb}
use Rattle.std.specs.Prelude.{length, take, drop}
use Rattle.util_defs.specs.Width.{M}
use Rattle.util_defs.specs.Refusal.{Outcome, Cause, unless}
use Rattle.layout_defs.specs.Layout.{Layout, layout_causes}
use Rattle.words.specs.Bytes.{word_length, value_of, bytes_of, word_at, word_bytes}
use Rattle.record_defs.specs.Record.{Words, words_of, words_layout, kind_above, later_word, trailing_word_zero, words_causes}
use Rattle.record_defs.specs.Record.{after}

-- the fields of a short record
pub record Short : Type 0 where
  pub size : ℕ
  pub offset : ℕ
  pub elem : ℕ
  pub word : ℕ
  pub power : ℕ
  pub kind : ℕ
  pub spare : ℕ

-- three words and the bytes of the others: 32
abbrev pub short_length : ℕ
short_length = 3 * word_length + (4 + 1 + 1 + 2)

-- the little-endian number of n bytes at i
abbrev pub number_at : ℕ → List ℕ → ℕ → ℕ
number_at n s i = value_of (take n (drop i s))

-- the fields of the short record at byte i, and the bytes of a short record
abbrev pub short_at : List ℕ → ℕ → Short
short_at s i = record {
  size = word_at s i;
  offset = word_at s (i + 8);
  elem = word_at s (i + 16);
  word = number_at 4 s (i + 24);
  power = number_at 1 s (i + 28);
  kind = number_at 1 s (i + 29);
  spare = number_at 2 s (i + 30);
}

abbrev pub short_bytes : Short → List ℕ
short_bytes r =
    word_bytes r.size ++ word_bytes r.offset ++ word_bytes r.elem
    ++ bytes_of 4 r.word ++ bytes_of 1 r.power ++ bytes_of 1 r.kind ++ bytes_of 2 r.spare

-- the power of an alignment of w bits: the exponent of the one of 2 ^ (w - 1), .., 2, 1 that it is (`power_is`)
unfoldable pub exponent_of : ℕ → ℕ → ℕ
exponent_of zero a = 0
exponent_of (suc k) a = cond (eqb a (2 ^ k)) k (exponent_of k a)

-- the short form of a record's words, and the words of a short record
abbrev pub short_of : Words → Short
short_of r = record {
  size = r.size;
  offset = r.offset;
  elem = r.elem;
  word = r.word;
  power = exponent_of 64 r.align;
  kind = r.kind;
  spare = 0;
}

abbrev pub words_from : Short → Words
words_from r = record {
  align = 2 ^ r.power;
  kind = r.kind;
  size = r.size;
  offset = r.offset;
  elem = r.elem;
  word = r.word;
}

-- 40: the rounding word needs more than 32 bits
abbrev pub word_above : ℕ → Cause
word_above n = record { number = 40; test = ltb (M 32) n; means = M 32 < n }

-- 42: the spare bytes are not zero, or the power is above 63
abbrev pub bad_spare : Short → Cause
bad_spare r = record {
  number = 42;
  test = not (eqb r.spare 0) || ltb 63 r.power;
  means = (r.spare ≡ 0 → ⊥) ⊎ (63 < r.power);
}

-- what refuses to make words short: their own tests, then 40; what refuses a short record: 21, 42, then 22 or 2
abbrev pub to_short_causes : Words → List Cause
to_short_causes r = words_causes 64 r ++ (word_above r.word ∷ [])

abbrev pub from_short_causes : Short → List Cause
from_short_causes r = kind_above r.kind ∷ bad_spare r ∷ later_word (words_from r) ∷ trailing_word_zero (words_from r) ∷ []

-- 20: a short record is not 32 bytes long
abbrev pub bad_short_length : ℕ → Cause
bad_short_length n = record { number = 20; test = not (eqb n short_length); means = n ≡ short_length → ⊥ }

-- `decode_short`: a short record as a layout
abbrev pub decode_short_causes : List ℕ → List Cause
decode_short_causes s = bad_short_length (length s) ∷ from_short_causes (short_at s 0)

unfoldable pub decode_short_for : List ℕ → Outcome Layout
decode_short_for s = unless (decode_short_causes s) (words_layout (words_from (short_at s 0)))

-- what it means: the fields are those of the layout's short form
abbrev pub DecodesShort : List ℕ → Layout → Type 0
DecodesShort s l = short_of (words_of l) ≡ short_at s 0

-- `encode_short_words`: the short record of six words into lent bytes, 20 for those, then what refuses to make the words short
unfoldable pub encode_short_words_for : Words → ℕ → Outcome (Unit {0})
encode_short_words_for r n = unless (bad_short_length n ∷ to_short_causes r) tt

abbrev pub encoded_short_words_into : Words → List ℕ → List ℕ
encoded_short_words_into r old = after (encode_short_words_for r (length old)) (short_bytes (short_of r)) old

-- `encode_short`: that of a layout, 20 for the lent bytes, then the layout's own, then 40
abbrev pub encode_short_causes : Layout → ℕ → List Cause
encode_short_causes l n = bad_short_length n ∷ (layout_causes 64 l ++ (word_above (words_of l).word ∷ []))

unfoldable pub encode_short_for : Layout → ℕ → Outcome (Unit {0})
encode_short_for l n = unless (encode_short_causes l n) tt

abbrev pub encoded_short_into : Layout → List ℕ → List ℕ
encoded_short_into l old = after (encode_short_for l (length old)) (short_bytes (short_of (words_of l))) old
