-- `exports32_records::lukaripe32_decode` meets its contract. Assumes nothing.
use mathlib.Core.Path.{ap, ◌∙◌}
use Rattle.exports32_layouts.specs.Layouts.{layout_out32}
use Rattle.exports32_records.proofs.lukaripe32_decode.Goals as goal

pub returns : goal.returns
returns c = c.from.ensures ∙ ap layout_out32 c.decode.ensures.answer
