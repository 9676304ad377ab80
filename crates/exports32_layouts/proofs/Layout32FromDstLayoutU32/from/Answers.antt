-- `exports32_layouts::Layout32FromDstLayoutU32::from` meets its contract. Assumes nothing.
use Rattle.layout.specs.View.{layout_of}
use mathlib.Core.Path.{ap, ◌∙◌}
use native.Mathlib.Omega.{arith}
use Rattle.layout_defs.specs.Layout.{Layout}
use Rattle.record_defs.specs.Record.{Words, words_of}
use Rattle.exports32_layouts.specs.Layouts.{low_words, words_out32}
use Rattle.exports32_layouts.proofs.Narrowed.{low_words_lem}
use Rattle.exports32_layouts.proofs.Layout32FromDstLayoutU32.from.Goals as goal

pub returns : goal.returns
returns c =
    let l = layout_of c.args.l in
    let q = c.wide_layout.ensures in
    c.low_words.ensures
    ∙ ap (λ (r : Words). words_out32 (low_words 32 r)) (c.words_from_layout.ensures ∙ ap (λ (x : Layout). words_of x) q.0)
    ∙ ap (λ (r : Words). words_out32 r) (low_words_lem 32 l (omega arith) q.1)
