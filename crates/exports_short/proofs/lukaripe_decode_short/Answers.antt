-- `exports_short::lukaripe_decode_short` meets its contract. Assumes nothing.
use mathlib.Core.Path.{ap, ◌∙◌}
use Rattle.exports_layouts.specs.Layouts.{layout_out}
use Rattle.exports_short.proofs.lukaripe_decode_short.Goals as goal

pub returns : goal.returns
returns c = c.from.ensures ∙ ap layout_out c.decode_short.ensures.answer
