-- A layout is accepted in one way: what a ghost field, of which there may be one proof, asks for. Assumes nothing.
use Rattle.std.specs.Prelude.{ℕ}
use mathlib.Core.HLevel.{⊥_prop}
use Rattle.util_defs.specs.Refusal.{None}
use Rattle.layout_defs.specs.Layout.{Layout, layout_causes}

pub accepted_prop : (w : ℕ) (l : Layout) → IsProp (None (layout_causes w l))
accepted_prop w l x y = λ i. ((λ z. ⊥_prop (x.0 z) (y.0 z) i), ((λ z. ⊥_prop (x.1.0 z) (y.1.0 z) i), tt))
