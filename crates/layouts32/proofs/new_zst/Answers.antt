-- `layouts32::new_zst` meets its contract. Assumes nothing.
use mathlib.Core.Path.{sym, ap, ◌∙◌}
use native.Mathlib.Omega.{arith}
use Rattle.make.proofs.Made.{zst_meets}
use Rattle.widths_defs.specs.Low.{mapped}
use Rattle.widths_layouts_defs.specs.Low.{low_layout}
use Rattle.widths_layouts_defs.proofs.Made.{zst_low, asked_in}
use lib.Dec.{lit<}
use Rattle.util_defs.proofs.Refusals.{means}
use Rattle.layouts32.proofs.new_zst.Goals as goal

pub returns-clause-answer : goal.returns-clause-answer
returns-clause-answer c = c.low_answer.ensures ∙ ap (mapped (low_layout 32)) c.new_zst.ensures.answer ∙ sym (zst_low 32 64 c.args.repr_align (omega arith) (asked_in 32 c.args.repr_align (lit< tt) (omega arith)))

pub returns-clause-meaning : goal.returns-clause-meaning
returns-clause-meaning c = means (zst_meets 32 c.args.repr_align (asked_in 32 c.args.repr_align (lit< tt) (omega arith))) (returns-clause-answer c)
