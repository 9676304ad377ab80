-- How the moves of records cross to C. Assumes nothing.
use Rattle.std.specs.Prelude.{ℕ}
use Rattle.util_defs.specs.Placed.{Placed, reached, stopped}
use Rattle.exports_short.specs.declared.MovedOut.{MovedOut}

abbrev pub moved_out : Placed ℕ → MovedOut
moved_out (reached n) = record { refusal = 0; place = 0; written = n }
moved_out (stopped k i) = record { refusal = k; place = i; written = 0 }
