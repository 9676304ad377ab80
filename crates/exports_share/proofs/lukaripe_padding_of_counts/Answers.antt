-- `exports_share::lukaripe_padding_of_counts` meets its contract. Assumes nothing.
use mathlib.Core.Path.{ap, ◌∙◌}
use Rattle.trailing_defs.specs.Size.{Trailing}
use Rattle.share_defs.specs.Share.{share_for}
use Rattle.exports_share.specs.Shares.{share_out}
use Rattle.exports_share.proofs.lukaripe_padding_of_counts.Goals as goal

pub returns : goal.returns
returns c = c.from-2.ensures
    ∙ ap share_out (c.padding_of_counts.ensures.answer ∙ ap (λ (t : Trailing). share_for 64 t c.args.counts.now) c.from.ensures)
