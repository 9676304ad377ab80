-- How the working layout crosses to C: six words that the caller keeps and lends. Assumes nothing.
use Rattle.std.specs.Prelude.{ℕ}
use Rattle.util_defs.specs.Refusal.{Outcome, answered, refused}
use Rattle.layout_defs.specs.Layout.{Layout}
use Rattle.record_defs.specs.Record.{Words, words_of, words_for}
use Rattle.compose_defs.specs.Compose.{Member}
use Rattle.compose_defs.specs.Typed.{addition_for}
use Rattle.exports_layouts.specs.declared.Layout as given
use Rattle.exports_layouts.specs.declared.LayoutOut.{LayoutOut}
use Rattle.exports_layouts.specs.Layouts.{words_out, bind_outcome}

-- an addition: the lent words are tested as a record's are, then the member's, then it is the addition
abbrev pub working_for : ℕ → ℕ → Words → Member → Outcome Layout
working_for w packing r m = bind_outcome (words_for w r) (λ own. addition_for w packing own m)

-- 0 and the words of the layout after it; on a refusal its number and the words that were lent
abbrev pub worked_out : Outcome Layout → given.Layout → LayoutOut
worked_out (answered r) lent = record { refusal = 0; layout = words_out (words_of r) }
worked_out (refused k) lent = record { refusal = k; layout = lent }
