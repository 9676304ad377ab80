-- What the answer of this crate is, over numbers: document 01's number and values for each of its cases. Assumes nothing.
use Rattle.std.specs.Prelude.{ℕ, Result, Ok, Err}
use Rattle.util.specs.View.{number_of}
use Rattle.util.specs.declared.refusal.RefusedAt.{RefusedAt}
use Rattle.layout.specs.declared.DstLayout.{DstLayout}
use Rattle.layout_defs.specs.Layout.{Layout}
use Rattle.layout.specs.View.{layout_of}
use Rattle.compose_defs.specs.Compose.{Composed, composed, refused_at}

-- the layout as f sees it
abbrev pub composed_says : {N : Type 0} → (DstLayout N → Layout) → Result (DstLayout N) (RefusedAt ℕ) → Composed
composed_says f (Ok l) = composed (f l)
composed_says f (Err r) = refused_at (number_of r.refusal) r.place

-- the same of whole numbers
abbrev pub compose_says : Result (DstLayout ℕ) (RefusedAt ℕ) → Composed
compose_says = composed_says layout_of
