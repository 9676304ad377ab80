-- What v bits keep of a grant, and that they hold its numbers. Assumes nothing.
use Rattle.std.specs.Prelude.{ℕ, ◌^◌, ◌<◌}
use Rattle.cast_defs.specs.Cast.{Grant}
use Rattle.widths_defs.specs.Low.{low}

abbrev pub low_grant : ℕ → Grant → Grant
low_grant v g = record { count = low v g.count; split = low v g.split }

pub record GrantIn (v : ℕ) (g : Grant) : Type 0 where
  pub count : g.count < 2 ^ v
  pub split : g.split < 2 ^ v
