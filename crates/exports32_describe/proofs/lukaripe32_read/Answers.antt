-- `exports32_describe::lukaripe32_read` meets its contract. Assumes nothing.
use Rattle.exports_describe.proofs.Read.{as_read}
use mathlib.Core.Path.{ap, ◌∙◌}
use Rattle.exports32_lists.specs.Lists.{composed_out32}
use Rattle.exports_describe.specs.Read.{as_composed}
use Rattle.exports32_describe.proofs.lukaripe32_read.Goals as goal

pub returns : goal.returns
returns c =
    c.from.ensures ∙ ap composed_out32 (as_read c.read.result ∙ ap as_composed c.read.ensures.answer)
