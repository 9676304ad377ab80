-- `casts32::low_grant` meets its contract. Assumes nothing.
use Rattle.std.proofs.Common.{rules}
use Rattle.cast.specs.View.{grant_of}
use Rattle.widths_casts_defs.specs.Low.{low_grant}
use Rattle.numbers32.proofs.Narrowed.{narrowed}
use Rattle.casts32.proofs.low_grant.Goals as goal

pub returns : goal.returns
returns c = narrowed grant_of grant_of (low_grant 32) c.args.answer c.map.result _ (λ x y q. search rules) c.map.ensures.cases
