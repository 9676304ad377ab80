-- `share::low_answer` meets its contract. Assumes nothing.
use Rattle.std.proofs.Common.{rules, refl}
use Rattle.util_defs.specs.Placed.{reached, go_on}
use Rattle.share.specs.View.{share_is, low_share}
use Rattle.numbers32.proofs.Narrowed.{narrowed_at}
use Rattle.share.proofs.low_answer.Goals as goal

pub returns : goal.returns
returns c = narrowed_at share_is share_is (λ p. go_on p (λ x. reached (low_share 32 x))) c.args.answer c.map.result _ (λ x y q. search rules) (λ n i. refl) c.map.ensures.cases
