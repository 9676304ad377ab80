-- A text replayed: its lines in their order, each held against what a call tells of it. Assumes nothing.
use Rattle.std.specs.Prelude.{◌≡◌, Bool, false, List, ℕ, ◌<◌, ◌≤◌, length, Option, Some, None}
use Rattle.recorded_defs.specs.Lines.{line, unread, line_at, agrees_with}
use Rattle.recorded.specs.declared.Told.{Told}
use Rattle.recorded.specs.declared.Tally.{Tally}
use Rattle.recorded.specs.View.{counted}

-- whether a line of so many numbers has what was told, where anything was
abbrev pub agreed : List ℕ → ℕ → Option Told → Bool
agreed ns count (Some told) = agrees_with ns count told.inputs told.length told.numbers
agreed ns count None = false

-- from a place and a tally on: the text's end; a line that does not read as numbers, which differs and is the last; or a line,
-- of which this or nothing may be told, and what comes behind it
pub data Tallies (tells : List ℕ → Option Told → Type 0) (s : List ℕ) : ℕ → Tally → Tally → Type 0 where
  ended : {at : ℕ} {t : Tally} → length s ≤ at → Tallies tells s at t t
  no_line : {at : ℕ} {t : Tally} → at < length s → line_at s at ≡ unread → Tallies tells s at t (counted t false)
  goes_on : {at count next : ℕ} {ns : List ℕ} {t u : Tally} (told : Option Told) → at < length s
      → line_at s at ≡ line ns count next → tells ns told
      → Tallies tells s next (counted t (agreed ns count told)) u → Tallies tells s at t u

-- the tally of some text, as of a file, whose bytes no clause can name
abbrev pub TalliesSome : (List ℕ → Option Told → Type 0) → Tally → Type 0
TalliesSome tells u = (s : List ℕ) × Tallies tells s 0 (record { lines = 0; differ = 0 }) u
