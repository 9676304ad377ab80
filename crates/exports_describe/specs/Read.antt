-- How a description that was read crosses to C: as a composition does. Assumes nothing.
use Rattle.util_defs.specs.Placed.{Placed, reached, stopped}
use Rattle.layout_defs.specs.Layout.{Layout}
use Rattle.compose_defs.specs.Compose.{Composed, composed, refused_at}

abbrev pub as_composed : Placed Layout → Composed
as_composed (reached l) = composed l
as_composed (stopped k place) = refused_at k place
