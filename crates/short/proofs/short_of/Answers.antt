-- `short::short_of` meets its contract. Assumes nothing.
use Rattle.std.proofs.Common.{sym, ap, ◌∙◌}
use Rattle.layout.specs.View.{layout_of}
use Rattle.short_defs.specs.Short.{exponent_of}
use Rattle.short_defs.proofs.Told.{words_align}
use Rattle.short.proofs.short_of.Goals as goal

pub returns : goal.returns
returns c =
    let l = layout_of c.args.valid.layout in
    let w = c.words_from_layout-words.ensures in
    let p = c.power_of.ensures ∙ ap (exponent_of 64) (c.align.ensures ∙ sym (words_align l)) in
    λ i. record { size = (w i).size; offset = (w i).offset; elem = (w i).elem; word = (w i).word; power = p i; kind = (w i).kind; spare = 0 }
