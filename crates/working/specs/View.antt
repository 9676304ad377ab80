-- What an addition to a working layout gives, over numbers. Assumes nothing.
use Rattle.std.specs.Prelude.{◌≡◌, ℕ, Result, Ok, Err}
use Rattle.util_defs.specs.Refusal.{Outcome, answered, refused}
use Rattle.util.specs.View.{number_of}
use Rattle.util.specs.declared.refusal.Refusal.{Refusal}
use Rattle.layout_defs.specs.Layout.{Layout}
use Rattle.layout.specs.declared.DstLayout.{DstLayout}
use Rattle.layout.specs.View.{layout_of}

-- what comes back, with what the lent layout, as f sees it, then holds: it where the member was accepted, else the number
abbrev pub added_says : {N : Type 0} → (DstLayout N → Layout) → Result (Unit {0}) Refusal → DstLayout N → Outcome Layout
added_says f (Ok u) l = answered (f l)
added_says f (Err r) l = refused (number_of r)

-- the same of whole numbers
abbrev pub add_says : Result (Unit {0}) Refusal → DstLayout ℕ → Outcome Layout
add_says = added_says layout_of

-- a refusal "alters nothing": the lent layout holds, word for word, what it held
abbrev pub untouched : {N : Type 0} → Result (Unit {0}) Refusal → DstLayout N → DstLayout N → Type 0
untouched (Ok u) before after = Unit {0}
untouched (Err r) before after = after ≡ before
