-- `exports_from_short::lukaripe_records_from_short` meets its contract. Assumes nothing.
use mathlib.Core.Path.{ap, ◌∙◌}
use Rattle.exports_short.specs.Shorts.{moved_out}
use Rattle.exports_from_short.proofs.lukaripe_records_from_short.Goals as goal

pub returns-clause-value : goal.returns-clause-value
returns-clause-value c = c.from.ensures ∙ ap moved_out c.records_from_short-answer.ensures.answer

pub returns-clause-out_after : goal.returns-clause-out_after
returns-clause-out_after c = c.records_from_short-answer.ensures.bytes
