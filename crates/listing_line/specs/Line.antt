-- The line that the listing program prints (document 01, "The listing program"). Assumes nothing.
use Rattle.std.specs.Prelude.{cond, List, [], ◌∷◌, ◌++◌, ℕ, zero, suc, ◌+◌, ◌/◌, ◌%◌, ltb, length, drop}
use Rattle.record_defs.specs.Record.{Words, words_of}
use Rattle.compose_defs.specs.Compose.{Composed, composed, refused_at, ported, struct_for}

-- a number in decimal, in at most k digits, in ASCII
abbrev pub digits_of : ℕ → ℕ → List ℕ
digits_of zero n = []
digits_of (suc k) n = cond (ltb n 10) ((48 + n) ∷ []) (digits_of k (n / 10) ++ ((48 + n % 10) ∷ []))

-- a number in decimal: it has no more digits than one more than itself
unfoldable pub decimal : ℕ → List ℕ
decimal n = digits_of (suc n) n

abbrev pub space : ℕ
space = 32

abbrev pub newline : ℕ
newline = 10

-- a number and the byte behind it
unfoldable pub token : ℕ → ℕ → List ℕ
token n c = decimal n ++ (c ∷ [])

-- the six words of a layout: alignment, kind, size or base, o, e, word
unfoldable pub words_line : Words → List ℕ
words_line r =
    token r.align space ++ token r.kind space ++ token r.size space
    ++ token r.offset space ++ token r.elem space ++ token r.word newline

-- `refused ` and `at `
abbrev pub refused_text : List ℕ
refused_text = 114 ∷ 101 ∷ 102 ∷ 117 ∷ 115 ∷ 101 ∷ 100 ∷ space ∷ []

abbrev pub at_text : List ℕ
at_text = 97 ∷ 116 ∷ space ∷ []

-- a refusal: its number and its place
unfoldable pub refused_line : ℕ → ℕ → List ℕ
refused_line k place = refused_text ++ token k space ++ at_text ++ token place newline

abbrev pub line_of : Composed → List ℕ
line_of (composed l) = words_line (words_of l)
line_of (refused_at k place) = refused_line k place

-- the program takes up to 65,520 bytes; longer is 20 at 0
abbrev pub greatest_list : ℕ
greatest_list = 65520

-- the composition of the list without alignment or packing
unfoldable pub list_for : ℕ → List ℕ → Composed
list_for w s = cond (ltb greatest_list (length s)) (refused_at 20 0) (struct_for w ported 0 0 s)

-- `line`: a line has at most 126 bytes, six numbers of 64 bits with a byte behind each. Into as many lent bytes the line is
-- written, from the first on, and its length is the answer; fewer are left as they were, and the answer is 0.
abbrev pub line_room : ℕ
line_room = 126

abbrev pub line_length : ℕ → List ℕ → List ℕ → ℕ
line_length w s old = cond (ltb (length old) line_room) 0 (length (line_of (list_for w s)))

abbrev pub line_into : ℕ → List ℕ → List ℕ → List ℕ
line_into w s old = cond (ltb (length old) line_room) old (line_of (list_for w s) ++ drop (length (line_of (list_for w s))) old)
