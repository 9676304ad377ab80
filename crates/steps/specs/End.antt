-- Where a layout ends that begins at 0, as a number of its width. Assumes nothing.
use Rattle.std.specs.Prelude.{◌≡◌, refl, ℕ}
use Rattle.layout.specs.declared.SizeInfo.{SizeInfo}
use Rattle.layout.specs.declared.SizeInfo.TheVariants.{Sized, SliceDst}
use Rattle.layout.specs.View.{info_of}
use Rattle.compose_defs.specs.Places.{end_of}

-- its size; of a trailing one, its base
abbrev pub end_in : {N : Type 0} → SizeInfo N → N
end_in (Sized s) = s
end_in (SliceDst t) = t.size_base

-- of whole numbers it is its end
pub ended : (i : SizeInfo ℕ) → end_of (info_of i) ≡ end_in i
ended (Sized s) = refl
ended (SliceDst t) = refl
