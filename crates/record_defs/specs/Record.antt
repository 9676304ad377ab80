-- Records of layouts (document 01, module 7; document 02, request 7). Assumes nothing.
use Rattle.std.specs.Prelude.{◌≡◌, Bool, true, false, cond, not, ◌&&◌, List, [], ◌∷◌, ◌++◌, ℕ, ◌+◌, ◌*◌, ◌/◌, ◌%◌, ◌≤◌, ◌<◌}
use Rattle.std.specs.Prelude.{eqb, leb, ltb, length}
use Rattle.util_defs.specs.Width.{M}
use Rattle.util_defs.specs.Refusal.{Outcome, answered, refused, Cause, unless}
use Rattle.util_defs.specs.Helpers.{bad_align}
use Rattle.layout_defs.specs.Layout.{Info, fixed, trailing, Layout, layout_causes}
use Rattle.words.specs.Bytes.{word_length, word_at, word_bytes}

-- the six words of a record: alignment, kind, size or base, o, e, rounding word
pub record Words : Type 0 where
  pub align : ℕ
  pub kind : ℕ
  pub size : ℕ
  pub offset : ℕ
  pub elem : ℕ
  pub word : ℕ

-- a record has 48 bytes
abbrev pub record_length : ℕ
record_length = 6 * word_length

-- the words of the record at byte i, and the bytes of a record
abbrev pub words_at : List ℕ → ℕ → Words
words_at s i = record {
  align = word_at s i;
  kind = word_at s (i + 8);
  size = word_at s (i + 16);
  offset = word_at s (i + 24);
  elem = word_at s (i + 32);
  word = word_at s (i + 40);
}

abbrev pub record_bytes : Words → List ℕ
record_bytes r =
    word_bytes r.align ++ word_bytes r.kind ++ word_bytes r.size
    ++ word_bytes r.offset ++ word_bytes r.elem ++ word_bytes r.word

-- the kind: 0 fixed or 2 trailing, 1 more with the mark, 4 more with an alignment modifier
abbrev pub greatest_kind : ℕ
greatest_kind = 7

abbrev pub IsFixedKind : ℕ → Type 0
IsFixedKind k = k / 2 % 2 ≡ 0

abbrev pub is_fixed_kind : ℕ → Bool
is_fixed_kind k = eqb (k / 2 % 2) 0

abbrev pub is_marked_kind : ℕ → Bool
is_marked_kind k = eqb (k % 2) 1

abbrev pub is_modified_kind : ℕ → Bool
is_modified_kind k = eqb (k / 4 % 2) 1

abbrev pub kind_of : Info → Bool → Bool → ℕ
kind_of (fixed s) mark over = 0 + cond mark 1 0 + cond over 4 0
kind_of (trailing t) mark over = 2 + cond mark 1 0 + cond over 4 0

-- the words of a layout; the last three are 0 when it is fixed
abbrev pub info_words : ℕ → ℕ → Info → Words
info_words a k (fixed s) = record { align = a; kind = k; size = s; offset = 0; elem = 0; word = 0 }
info_words a k (trailing t) = record { align = a; kind = k; size = t.base; offset = t.offset; elem = t.elem; word = t.word }

abbrev pub words_of : Layout → Words
words_of l = info_words l.align (kind_of l.info l.mark l.modifier) l.info

-- the layout of words that are not refused
abbrev pub words_info : Words → Info
words_info r =
    cond (is_fixed_kind r.kind) (fixed r.size)
    (trailing (record { offset = r.offset; elem = r.elem; base = r.size; word = r.word }))

abbrev pub words_layout : Words → Layout
words_layout r =
    record { align = r.align; info = words_info r; mark = is_marked_kind r.kind; modifier = is_modified_kind r.kind }

-- 20: a record is not 48 bytes long
abbrev pub bad_length : ℕ → Cause
bad_length n = record { number = 20; test = not (eqb n record_length); means = n ≡ record_length → ⊥ }

-- 21: the kind is above the greatest
abbrev pub kind_above : ℕ → Cause
kind_above k = record { number = 21; test = ltb greatest_kind k; means = greatest_kind < k }

-- 22: a fixed record has a later word that is not 0
abbrev pub later_word : Words → Cause
later_word r = record {
  number = 22;
  test = is_fixed_kind r.kind && not (eqb r.offset 0 && (eqb r.elem 0 && eqb r.word 0));
  means = IsFixedKind r.kind × ((r.offset ≡ 0) × ((r.elem ≡ 0) × (r.word ≡ 0)) → ⊥);
}

-- 2: a trailing record's rounding word is 0
abbrev pub trailing_word_zero : Words → Cause
trailing_word_zero r = record {
  number = 2;
  test = not (is_fixed_kind r.kind) && eqb r.word 0;
  means = (IsFixedKind r.kind → ⊥) × (r.word ≡ 0);
}

-- what refuses six words
abbrev pub words_causes : ℕ → Words → List Cause
words_causes w r = kind_above r.kind ∷ bad_align w r.align ∷ later_word r ∷ trailing_word_zero r ∷ []

-- "records keep 64-bit fields": so wide are their own tests at every width
abbrev pub field_bits : ℕ
field_bits = 64

-- w bits hold the numbers of a record
pub record FitsIn (w : ℕ) (r : Words) : Type 0 where
  pub align : r.align ≤ M w
  pub size : r.size ≤ M w
  pub offset : r.offset ≤ M w
  pub elem : r.elem ≤ M w
  pub word : r.word ≤ M w

abbrev pub fits_in : ℕ → Words → Bool
fits_in w r =
    leb r.align (M w)
    && (leb r.size (M w) && (leb r.offset (M w) && (leb r.elem (M w) && leb r.word (M w))))

-- 43: a number of a record does not fit the width
abbrev pub number_passes : ℕ → Words → Cause
number_passes w r = record { number = 43; test = not (fits_in w r); means = FitsIn w r → ⊥ }

-- a record's own tests, the length first; what refuses it at a width: "43 .. after the record's own tests"
abbrev pub own_causes : List ℕ → List Cause
own_causes s = bad_length (length s) ∷ words_causes field_bits (words_at s 0)

abbrev pub record_causes : ℕ → List ℕ → List Cause
record_causes w s = own_causes s ++ (number_passes w (words_at s 0) ∷ [])

-- six words as a layout
unfoldable pub words_for : ℕ → Words → Outcome Layout
words_for w r = unless (words_causes w r) (words_layout r)

-- a record as a layout, by its own tests alone, and `decode`, at a width
unfoldable pub own_for : List ℕ → Outcome Layout
own_for s = unless (own_causes s) (words_layout (words_at s 0))

unfoldable pub decode_for : ℕ → List ℕ → Outcome Layout
decode_for w s = unless (record_causes w s) (words_layout (words_at s 0))

-- a layout that was read of another form of record, at a width
abbrev pub fitted : ℕ → Outcome Layout → Outcome Layout
fitted w (answered l) = unless (number_passes w (words_of l) ∷ []) l
fitted w (refused k) = refused k

-- what decoding means: the layout's words are those of the record
abbrev pub Decodes : Words → Layout → Type 0
Decodes r l = words_of l ≡ r

-- six words into lent bytes: 20 for those, then what refuses the words, cs
abbrev pub write_for : List Cause → ℕ → Outcome (Unit {0})
write_for cs n = unless (bad_length n ∷ cs) tt

-- the lent bytes after it: the record; on a refusal, as they were
abbrev pub after : Outcome (Unit {0}) → List ℕ → List ℕ → List ℕ
after (answered u) new old = new
after (refused k) new old = old

abbrev pub written_into : List Cause → Words → List ℕ → List ℕ
written_into cs r old = after (write_for cs (length old)) (record_bytes r) old

-- `encode`: the words of a layout, and what refuses the layout
unfoldable pub encode_for : ℕ → Layout → ℕ → Outcome (Unit {0})
encode_for w l n = write_for (layout_causes w l) n

abbrev pub encoded_into : ℕ → Layout → List ℕ → List ℕ
encoded_into w l old = after (encode_for w l (length old)) (record_bytes (words_of l)) old

-- `encode_words`: any six words, tested as a record's are
unfoldable pub encode_words_for : ℕ → Words → ℕ → Outcome (Unit {0})
encode_words_for w r n = write_for (words_causes w r) n

abbrev pub encoded_words_into : ℕ → Words → List ℕ → List ℕ
encoded_words_into w r old = after (encode_words_for w r (length old)) (record_bytes r) old
