-- `exports32_layouts::DstLayoutU32TryFromLayout32::try_from` meets its contract. Assumes nothing.
use mathlib.Core.Path.{sym, ap, ◌∙◌}
use native.Mathlib.Omega.{arith}
use Rattle.widths_defs.specs.Low.{mapped}
use Rattle.widths_layouts_defs.specs.Low.{low_layout}
use Rattle.record_defs.specs.Record.{words_for}
use Rattle.exports32_layouts.specs.Layouts.{words_given32}
use Rattle.exports32_layouts.proofs.Narrowed.{words_low}
use Rattle.exports32_layouts.proofs.DstLayoutU32TryFromLayout32.try_from.Goals as goal

pub returns : goal.returns
returns c =
    let l = c.args.l in
    c.low_answer.ensures ∙ ap (mapped (low_layout 32)) (c.layout_from_words.ensures.answer ∙ ap (words_for 64) c.from.ensures)
    ∙ sym (words_low 32 64 (words_given32 l) (omega arith) (omega arith) (omega arith) (omega arith) (omega arith) (omega arith))
