-- `exports_cases::lukaripe_write_cases` meets its contract. Assumes nothing.
use mathlib.Core.Path.{ap, ◌∙◌}
use Rattle.exports_numbers.specs.Numbers.{number_out}
use Rattle.exports_cases.proofs.lukaripe_write_cases.Goals as goal

pub returns-clause-value : goal.returns-clause-value
returns-clause-value c = c.from.ensures ∙ ap number_out c.write_cases-answer.ensures.answer

pub returns-clause-out_after : goal.returns-clause-out_after
returns-clause-out_after c = c.write_cases-answer.ensures.bytes
