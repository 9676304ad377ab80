-- What the answers of this crate are, over numbers: document 02's number and values for each case. Assumes nothing.
use Rattle.std.specs.Prelude.{ℕ, Result, Ok, Err}
use Rattle.util.specs.View.{number_of, placed_says}
use Rattle.util.specs.declared.refusal.RefusedAt.{RefusedAt}
use Rattle.layout.specs.declared.DstLayout.{DstLayout}
use Rattle.describe.specs.declared.ReadPart as Declared
use Rattle.describe.specs.declared.Stop.{Stop}
use Rattle.util_defs.specs.Placed.{Placed, reached, stopped}
use Rattle.layout_defs.specs.Layout.{Layout}
use Rattle.layout.specs.View.{layout_of}
use Rattle.describe_defs.specs.Describe.{Part}

-- a part, and what comes behind it
abbrev pub part_in : Declared.ReadPart ℕ → Part
part_in r = (layout_of r.layout, r.next)

abbrev pub part_says : Result (Declared.ReadPart ℕ) (RefusedAt ℕ) → Placed Part
part_says = placed_says part_in

-- why and where a part stops, from a refusal at a place and back
abbrev pub stop_of : RefusedAt ℕ → Stop
stop_of at = record { place = at.place; refusal = at.refusal }

abbrev pub at_stop : Stop → RefusedAt ℕ
at_stop stop = record { refusal = stop.refusal; place = stop.place }

-- what part_says says, of such a stop
abbrev pub stop_says : Result (Declared.ReadPart ℕ) Stop → Placed Part
stop_says (Ok r) = reached (part_in r)
stop_says (Err stop) = stopped (number_of stop.refusal) stop.place

abbrev pub read_says : Result (DstLayout ℕ) (RefusedAt ℕ) → Placed Layout
read_says = placed_says layout_of
