-- How the working layout crosses to C at 32 bits: six words of 32 bits that the caller keeps and lends. Assumes nothing.
use Rattle.util_defs.specs.Refusal.{Outcome, answered, refused}
use Rattle.layout_defs.specs.Layout.{Layout}
use Rattle.record_defs.specs.Record.{words_of}
use Rattle.exports32_layouts.specs.declared.Layout32.{Layout32}
use Rattle.exports32_layouts.specs.declared.LayoutOut32.{LayoutOut32}
use Rattle.exports32_layouts.specs.Layouts.{words_out32}

-- 0 and the words of the layout after an addition; on a refusal its number and the words that were lent
abbrev pub worked_out32 : Outcome Layout → Layout32 → LayoutOut32
worked_out32 (answered r) lent = record { refusal = 0; layout = words_out32 (words_of r) }
worked_out32 (refused k) lent = record { refusal = k; layout = lent }
