-- `cast::split_around` meets its contract. Assumes nothing.
use mathlib.Core.Path.{sym, ap}
use Rattle.cast_defs.specs.Cast.{split_at}
use Rattle.cast.specs.declared.CastType.{CastType}
use Rattle.cast.specs.View.{side_of}
use Rattle.cast.proofs.split_around.Goals as goal

pub returns-in-Suffix : goal.returns-in-Suffix
returns-in-Suffix c = ap (λ (t : CastType). split_at (side_of t) c.args.len c.args.size) (sym c.in-Suffix.is)
