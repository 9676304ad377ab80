-- "The result is the one composition by hand would give" (document 02, request 4), and bytes describe one. Assumes nothing.
use Rattle.std.specs.Prelude.{◌≡◌, List, [], ◌∷◌, ◌++◌, map, ℕ, suc, ◌+◌, ◌%◌, ◌≤◌, length}
use Rattle.util_defs.specs.Width.{M}
use Rattle.util_defs.specs.Placed.{Placed, reached, stopped}
use Rattle.layout_defs.specs.Layout.{Layout}
use Rattle.scalar.specs.Scalar.{Target, greatest_code, scalar_layout}
use Rattle.record_defs.specs.Record.{record_length, record_bytes, words_of}
use Rattle.compose_defs.specs.Compose.{Composed, composed, refused_at, ported, compose_struct, struct_for}
use Rattle.compose_defs.specs.Places.{listed}
use Rattle.describe_defs.specs.Describe.{Counted, count_bytes, Part, greatest_power, power_of, part_for, described_for}
use Rattle.describe_defs.specs.Grammar.{Run, members, Header, Describes, Description}

abbrev pub OneLayout : ℕ → Target → List ℕ → Type 0
OneLayout w target s = (l m : Layout) → Description w target s l → Description w target s m → l ≡ m

-- what a composition by hand gives of a struct at t whose members are read as far as j: a refusal stands at the tag
abbrev pub by_hand : ℕ → ℕ → Composed → Placed Part
by_hand t j (composed l) = reached (l, j)
by_hand t j (refused_at k place) = stopped k t

-- a struct whose members are read is the composition of their layouts
abbrev pub AsByHand : ℕ → Target → List ℕ → Type 0
AsByHand w target s =
    (d t j align packing : ℕ) (c : Counted) (ms : List Layout) → Header w s t c align packing (length ms)
    → Run (Describes w target d s) (t + 3 + count_bytes c) j ms
    → part_for w target (suc d) s t ≡ by_hand t j (compose_struct w ported align packing (members ms))

-- and `for_repr_c_struct` of a list of records that has these layouts
abbrev pub AsByRecords : ℕ → Target → List ℕ → Type 0
AsByRecords w target s =
    (d t j align packing : ℕ) (c : Counted) (ms : List Layout) (records : List ℕ) → Header w s t c align packing (length ms)
    → Run (Describes w target d s) (t + 3 + count_bytes c) j ms → length records % record_length ≡ 0
    → listed w records ≡ members ms
    → part_for w target (suc d) s t ≡ by_hand t j (struct_for w ported align packing records)

-- a struct of scalars as bytes: a and p are the bytes of alignment and packing
abbrev pub Codes : List ℕ → Type 0
Codes [] = Unit {0}
Codes (c ∷ cs) = (c ≤ greatest_code) × Codes cs

abbrev pub of_codes : ℕ → ℕ → List ℕ → List ℕ
of_codes a p cs = 17 ∷ a ∷ p ∷ length cs ∷ cs

-- the records of layouts, one behind the other
unfoldable pub records_of : List Layout → List ℕ
records_of [] = []
records_of (l ∷ ls) = record_bytes (words_of l) ++ records_of ls

-- a description that is one struct: a refusal stands at the first byte
abbrev pub whole_by_hand : Composed → Placed Layout
whole_by_hand (composed l) = reached l
whole_by_hand (refused_at k place) = stopped k 0

-- it reads as `for_repr_c_struct` of the scalars' records, where alignment and packing fit the width
abbrev pub AsScalars : ℕ → Target → Type 0
AsScalars w target =
    (a p : ℕ) (cs : List ℕ) → a ≤ 1 + greatest_power → p ≤ 1 + greatest_power → power_of a ≤ M w → power_of p ≤ M w → Codes cs
    → described_for w target (of_codes a p cs)
    ≡ whole_by_hand (struct_for w ported (power_of a) (power_of p) (records_of (map (scalar_layout target) cs)))
