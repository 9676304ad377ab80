-- `exports_describe::lukaripe_read` meets its contract. Assumes nothing.
use Rattle.exports_describe.proofs.Read.{as_read}
use mathlib.Core.Path.{ap, ◌∙◌}
use Rattle.exports_layouts.specs.Layouts.{composed_out}
use Rattle.exports_describe.specs.Read.{as_composed}
use Rattle.exports_describe.proofs.lukaripe_read.Goals as goal

pub returns : goal.returns
returns c =
    c.from.ensures ∙ ap composed_out (as_read c.read.result ∙ ap as_composed c.read.ensures.answer)
