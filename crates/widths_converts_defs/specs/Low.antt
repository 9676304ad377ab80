-- What v bits keep of the parameters of a conversion, and that they hold them. Assumes nothing.
use Rattle.std.specs.Prelude.{ℕ, ◌^◌, ◌<◌}
use Rattle.convert_defs.specs.Convert.{Params, sized_to_sized, sized_to_unsized, unsized_to_unsized}
use Rattle.widths_defs.specs.Low.{low}

abbrev pub low_params : ℕ → Params → Params
low_params v sized_to_sized = sized_to_sized
low_params v (sized_to_unsized n) = sized_to_unsized (low v n)
low_params v (unsized_to_unsized d k) = unsized_to_unsized (low v d) (low v k)

abbrev pub ParamsIn : ℕ → Params → Type 0
ParamsIn v sized_to_sized = Unit {0}
ParamsIn v (sized_to_unsized n) = n < 2 ^ v
ParamsIn v (unsized_to_unsized d k) = (d < 2 ^ v) × (k < 2 ^ v)
