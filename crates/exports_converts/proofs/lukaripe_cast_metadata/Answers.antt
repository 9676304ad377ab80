-- `exports_converts::lukaripe_cast_metadata` meets its contract. Assumes nothing.
use mathlib.Core.Path.{ap, ◌∙◌}
use Rattle.convert_defs.specs.Convert.{Params, metadata_for}
use Rattle.exports_numbers.specs.Numbers.{number_out}
use Rattle.exports_converts.proofs.lukaripe_cast_metadata.Goals as goal

pub returns : goal.returns
returns c = c.from-2.ensures ∙ ap number_out (c.cast_metadata.ensures.answer ∙ ap (λ (q : Params). metadata_for 64 q c.args.src_meta) c.from.ensures)
