-- How casts and conversions cross to C. Assumes nothing.
use Rattle.std.specs.Prelude.{Bool, true, false, cond, ℕ, eqb}
use Rattle.util_defs.specs.Refusal.{Outcome, answered, refused}
use Rattle.cast_defs.specs.Cast.{Side, prefix, suffix, Grant}
use Rattle.convert_defs.specs.Convert.{Params, sized_to_sized, sized_to_unsized, unsized_to_unsized}
use Rattle.exports_converts.specs.declared.CastOut.{CastOut}
use Rattle.exports_converts.specs.declared.CastParams.{CastParams}
use Rattle.exports_converts.specs.declared.CastParamsOut.{CastParamsOut}

abbrev pub cast_out : Outcome Grant → CastOut
cast_out (answered g) = record { refusal = 0; count = g.count; split = g.split }
cast_out (refused k) = record { refusal = k; count = 0; split = 0 }

-- a suffix, or a prefix
abbrev pub side_given : Bool → Side
side_given true = suffix
side_given false = prefix

-- the kinds of a conversion: 0 fixed to fixed, 1 fixed to trailing, 2, and any other that is handed over, trailing to trailing
abbrev pub params_given : CastParams → Params
params_given q =
    cond (eqb q.kind 0) sized_to_sized
    (cond (eqb q.kind 1) (sized_to_unsized q.dst_meta) (unsized_to_unsized q.offset_delta_elems q.elem_multiple))

abbrev pub no_params : CastParams
no_params = record { kind = 0; offset_delta_elems = 0; elem_multiple = 0; dst_meta = 0 }

abbrev pub params_numbers : Params → CastParams
params_numbers sized_to_sized = no_params
params_numbers (sized_to_unsized n) = record { kind = 1; offset_delta_elems = 0; elem_multiple = 0; dst_meta = n }
params_numbers (unsized_to_unsized d k) = record { kind = 2; offset_delta_elems = d; elem_multiple = k; dst_meta = 0 }

abbrev pub params_out : Outcome Params → CastParamsOut
params_out (answered q) = record { refusal = 0; params = params_numbers q }
params_out (refused k) = record { refusal = k; params = no_params }
