-- What the answers of this crate say. Assumes nothing.
use Rattle.std.specs.Prelude.{◌≡◌, ◌≤◌, ◌<◌, Bool, true, false, cond, List, ℕ, ◌-◌, ◌++◌, ltb, length, take, replicate}
use Rattle.std.specs.Prelude.{Option, Some, None}
use Rattle.recorded_defs.specs.Lines as lines
use Rattle.recorded.specs.declared.Number.{Number}
use Rattle.recorded.specs.declared.Line.{Line}
use Rattle.recorded.specs.declared.lent.Lent.{Lent}
use Rattle.recorded.specs.declared.Told.{Told}
use Rattle.recorded.specs.declared.Tally.{Tally}

-- the value of a byte that is a digit, and of no other byte one
abbrev pub digit_says : ℕ → Option ℕ → Type 0
digit_says b (Some d) = (d ≡ lines.digit_of b) × (d ≤ 9)
digit_says b None = 9 < lines.digit_of b

abbrev pub number_says : Option Number → lines.Number
number_says (Some n) = lines.number n.value n.is_last n.next
number_says None = lines.none

abbrev pub line_says : Option Line → lines.Read
line_says (Some l) = lines.line l.numbers l.count l.next
line_says None = lines.unread

abbrev pub lent_says : Option Lent → Option (List ℕ × ℕ)
lent_says (Some l) = Some (take l.length l.room, l.inputs)
lent_says None = None

-- one line more, which agrees or differs
abbrev pub counted : Tally → Bool → Tally
counted t true = record { lines = lines.one_more t.lines; differ = t.differ }
counted t false = record { lines = lines.one_more t.lines; differ = lines.one_more t.differ }

-- an answer after so many inputs: its numbers, and 0 after them; of one with more than 13, with which no line agrees, how many
abbrev pub told_of : ℕ → List ℕ → Told
told_of inputs ns =
    record {
      inputs = inputs;
      length = length ns;
      numbers = cond (ltb 13 (length ns)) (replicate 13 0) (ns ++ replicate (13 - length ns) 0);
    }
