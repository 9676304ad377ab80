-- `exports32_records::lukaripe32_decode_short` meets its contract. Assumes nothing.
use mathlib.Core.Path.{ap, ◌∙◌}
use Rattle.record_defs.specs.Record.{fitted}
use Rattle.exports32_layouts.specs.Layouts.{layout_out32}
use Rattle.exports32_records.proofs.lukaripe32_decode_short.Goals as goal

pub returns : goal.returns
returns c = c.from.ensures ∙ ap layout_out32 (c.fitting.ensures ∙ ap (fitted 32) c.decode_short.ensures.answer)
