-- `exports_rewrite::lukaripe_shorten_counts` meets its contract. Assumes nothing.
use mathlib.Core.Path.{ap, ◌∙◌}
use Rattle.exports_short.specs.Shorts.{moved_out}
use Rattle.exports_rewrite.proofs.lukaripe_shorten_counts.Goals as goal

pub returns-clause-value : goal.returns-clause-value
returns-clause-value c = c.from.ensures ∙ ap moved_out c.shorten_counts-answer.ensures.answer

pub returns-clause-out_after : goal.returns-clause-out_after
returns-clause-out_after c = c.shorten_counts-answer.ensures.bytes
