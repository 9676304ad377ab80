-- `exports32_share::lukaripe32_padding_of_counts` meets its contract. Assumes nothing.
use mathlib.Core.Path.{ap, ◌∙◌}
use Rattle.trailing_defs.specs.Size.{Trailing}
use Rattle.share_defs.specs.Share.{share_for}
use Rattle.exports32_share.specs.Shares.{share_out32}
use Rattle.exports32_share.proofs.lukaripe32_padding_of_counts.Goals as goal

pub returns : goal.returns
returns c = c.from-2.ensures
    ∙ ap share_out32 (c.padding_of_counts32.ensures.answer ∙ ap (λ (t : Trailing). share_for 32 t c.args.counts.now) c.from.ensures)
