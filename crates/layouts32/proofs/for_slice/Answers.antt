-- `layouts32::for_slice` meets its contract. Assumes nothing.
use mathlib.Core.Path.{sym, ap, ◌∙◌}
use native.Mathlib.Omega.{arith}
use Rattle.make.proofs.Made.{slice_meets}
use Rattle.widths_defs.specs.Low.{mapped}
use Rattle.widths_layouts_defs.specs.Low.{low_layout}
use Rattle.widths_layouts_defs.proofs.Made.{slice_low}
use Rattle.util_defs.proofs.Refusals.{means}
use Rattle.layouts32.proofs.for_slice.Goals as goal

pub returns-clause-answer : goal.returns-clause-answer
returns-clause-answer c = c.low_answer.ensures ∙ ap (mapped (low_layout 32)) c.for_slice.ensures.answer ∙ sym (slice_low 32 64 c.args.size c.args.align (omega arith) (omega arith) (omega arith))

pub returns-clause-meaning : goal.returns-clause-meaning
returns-clause-meaning c = means (slice_meets 32 c.args.size c.args.align (omega arith)) (returns-clause-answer c)
