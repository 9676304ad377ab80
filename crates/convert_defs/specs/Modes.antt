-- What request 9 of document 02 lets the full mode change: it converts what the ported mode does, alike. Assumes nothing.
use Rattle.std.specs.Prelude.{◌≡◌, ℕ}
use Rattle.util_defs.specs.Refusal.{answered}
use Rattle.layout_defs.specs.Layout.{Layout, FitsWidth}
use Rattle.shift_defs.specs.Mode.{ported, full, comparison_of}
use Rattle.convert_defs.specs.Convert.{Params, compute_for}

abbrev pub FullKeeps : ℕ → Type 0
FullKeeps w =
    (s t : Layout) (q : Params) → FitsWidth w s → FitsWidth w t → compute_for w (comparison_of w ported) s t ≡ answered q
    → compute_for w (comparison_of w full) s t ≡ answered q
