-- What a move means, and the ways there and back (document 02, request 6). Assumes nothing.
use Rattle.std.specs.Prelude.{◌≡◌, List, ◌⊎◌, ℕ, ◌*◌, ◌≤◌, ◌<◌, length, drop}
use Rattle.util_defs.specs.Refusal.{answered, None, First}
use Rattle.util_defs.specs.Placed.{Placed, reached, stopped, judged}
use Rattle.layout_defs.specs.Layout.{Layout}
use Rattle.words.proofs.LittleEndian.{AllBytes}
use Rattle.record_defs.specs.Record.{record_length, own_for}
use Rattle.short_defs.specs.Short.{short_length, decode_short_for}
use Rattle.short_defs.specs.Moves.{Way, to_short, from_short, count_of, record_of, length_causes, move_for}

-- the two forms of one record: both decode to the same layout
pub record BothForms (old short : List ℕ) : Type 0 where
  pub layout : Layout
  pub of_old : own_for old ≡ answered layout
  pub of_short : decode_short_for short ≡ answered layout

-- those, as each way has them: first the record, then what it became
abbrev pub Shortened : List ℕ → List ℕ → Type 0
Shortened s t = BothForms s t

abbrev pub Widened : List ℕ → List ℕ → Type 0
Widened s t = BothForms t s

-- where a list stops: at its lengths, or at the first record that is refused, with its own number
pub record StopsIn (v : Way) (s : List ℕ) (k i : ℕ) : Type 0 where
  pub within : i < count_of v s
  pub before : (j : ℕ) → j < i → None (v.causes (record_of v.from s j))
  pub first : First (v.causes (record_of v.from s i)) k

abbrev pub Stops : Way → List ℕ → ℕ → ℕ → ℕ → Type 0
Stops v s m k i = (First (length_causes v s m) k × (i ≡ 0)) ⊎ (None (length_causes v s m) × StopsIn v s k i)

-- what a move means: each record of the output is the other form of the input's, behind them the output is as it was, and the
-- answer is the number of bytes written; a refusal leaves all as it was
pub record Moves (v : Way) (Forms : List ℕ → List ℕ → Type 0) (s old new : List ℕ) (n : ℕ) : Type 0 where
  pub fits : None (length_causes v s (length old))
  pub written : n ≡ count_of v s * v.to
  pub each : (i : ℕ) → i < count_of v s → Forms (record_of v.from s i) (record_of v.to new i)
  pub tail : drop n new ≡ drop n old
  pub whole : length new ≡ length old

abbrev pub MoveMeans : (v : Way) → (List ℕ → List ℕ → Type 0) → List ℕ → List ℕ → List ℕ → Placed ℕ → Type 0
MoveMeans v Forms s old new (reached n) = Moves v Forms s old new n
MoveMeans v Forms s old new (stopped k i) = Stops v s (length old) k i × (new ≡ old)

-- "comes back the same bytes": what one way gave, the other gives back
abbrev pub ComesBack : Way → Way → Type 0
ComesBack v v' =
    (s bs : List ℕ) (m m' : ℕ) → AllBytes s → move_for v s m ≡ reached bs → length s ≤ m' → move_for v' bs m' ≡ reached s

-- "every new record accepted has one old form": one that moves to it, and no other does
pub record OneOldForm (s : List ℕ) : Type 0 where
  pub old : List ℕ
  pub bytes : AllBytes old
  pub whole : length old ≡ record_length
  pub accepted : judged (to_short.causes old) ≡ answered tt
  pub moves : to_short.moved old ≡ s
  pub only : (t : List ℕ) → AllBytes t → length t ≡ record_length → judged (to_short.causes t) ≡ answered tt
      → to_short.moved t ≡ s → t ≡ old

abbrev pub HasOneOldForm : List ℕ → Type 0
HasOneOldForm s = AllBytes s → length s ≡ short_length → judged (from_short.causes s) ≡ answered tt → OneOldForm s
