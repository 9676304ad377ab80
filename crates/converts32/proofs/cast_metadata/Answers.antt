-- `converts32::cast_metadata` meets its contract. Assumes nothing.
use Rattle.convert.specs.View.{params_in}
use mathlib.Core.Path.{sym, ap, ◌∙◌}
use native.Mathlib.Omega.{arith}
use Rattle.util_defs.specs.Width.{M}
use Rattle.convert_defs.specs.Convert.{Params, metadata_for}
use Rattle.convert_defs.proofs.Conversions.{metadata_meets}
use Rattle.widths_converts_defs.specs.Within.{metadata_within}
use Rattle.widths_converts_defs.proofs.Converting.{metadata_narrows}
use Rattle.util_defs.proofs.Refusals.{means}
use Rattle.converts32.proofs.cast_metadata.Goals as goal

pub returns-clause-answer : goal.returns-clause-answer
returns-clause-answer c =
    let q = params_in c.args.params in
    let n = c.args.src_meta in c.metadata_within.ensures ∙ ap (metadata_within (M 32)) (c.cast_metadata.ensures.answer ∙ ap (λ (x : Params). metadata_for 64 x n) c.from.ensures)
    ∙ sym (metadata_narrows 32 64 q n (omega arith))

pub returns-clause-meaning : goal.returns-clause-meaning
returns-clause-meaning c =
    let q = params_in c.args.params in
    let n = c.args.src_meta in means (metadata_meets 32 q n) (returns-clause-answer c)
