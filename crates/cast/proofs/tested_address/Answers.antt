-- `cast::tested_address` meets its contract. Assumes nothing.
use mathlib.Core.Path.{sym, ap}
use Rattle.cast_defs.specs.Cast.{tested_address}
use Rattle.cast.specs.declared.CastType.{CastType}
use Rattle.cast.specs.View.{side_of}
use Rattle.cast.proofs.tested_address.Goals as goal

pub returns-in-Suffix : goal.returns-in-Suffix
returns-in-Suffix c = ap (λ (t : CastType). tested_address (side_of t) c.args.addr c.args.len) (sym c.in-Suffix.is)
