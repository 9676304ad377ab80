-- Answers about a list: a refusal comes with its place (documents 01 and 02). Assumes nothing.
use Rattle.std.specs.Prelude.{List, ℕ}
use Rattle.util_defs.specs.Refusal.{Outcome, answered, refused, Cause, unless}

-- what was asked for, or the number of the refusal and its place
pub data Placed (T : Type 0) : Type 0 where
  reached : T → Placed T
  stopped : (number place : ℕ) → Placed T

-- an outcome at a place, and what goes on from it
abbrev pub at_place : {S T : Type 0} → ℕ → Outcome S → (S → Placed T) → Placed T
at_place i (answered x) f = f x
at_place i (refused k) f = stopped k i

abbrev pub go_on : {S T : Type 0} → Placed S → (S → Placed T) → Placed T
go_on (reached x) f = f x
go_on (stopped k i) f = stopped k i

-- whether a refusal table refuses, where nothing else is asked
abbrev pub judged : List Cause → Outcome (Unit {0})
judged cs = unless cs tt
