-- How casts and conversions at 32 bits cross to C. Assumes nothing.
use Rattle.std.specs.Prelude.{cond, eqb}
use Rattle.util_defs.specs.Refusal.{Outcome, answered, refused}
use Rattle.cast_defs.specs.Cast.{Grant}
use Rattle.convert_defs.specs.Convert.{Params, sized_to_sized, sized_to_unsized, unsized_to_unsized}
use Rattle.exports32_converts.specs.declared.CastOut32.{CastOut32}
use Rattle.exports32_converts.specs.declared.CastParams32.{CastParams32}
use Rattle.exports32_converts.specs.declared.CastParamsOut32.{CastParamsOut32}

abbrev pub cast_out32 : Outcome Grant → CastOut32
cast_out32 (answered g) = record { refusal = 0; count = g.count; split = g.split }
cast_out32 (refused k) = record { refusal = k; count = 0; split = 0 }

-- the kinds of a conversion: 0 fixed to fixed, 1 fixed to trailing, 2, and any other that is handed over, trailing to trailing
abbrev pub params_given32 : CastParams32 → Params
params_given32 q =
    cond (eqb q.kind 0) sized_to_sized
    (cond (eqb q.kind 1) (sized_to_unsized q.dst_meta) (unsized_to_unsized q.offset_delta_elems q.elem_multiple))

abbrev pub no_params32 : CastParams32
no_params32 = record { kind = 0; offset_delta_elems = 0; elem_multiple = 0; dst_meta = 0 }

abbrev pub params_numbers32 : Params → CastParams32
params_numbers32 sized_to_sized = no_params32
params_numbers32 (sized_to_unsized n) = record { kind = 1; offset_delta_elems = 0; elem_multiple = 0; dst_meta = n }
params_numbers32 (unsized_to_unsized d k) = record { kind = 2; offset_delta_elems = d; elem_multiple = k; dst_meta = 0 }

abbrev pub params_out32 : Outcome Params → CastParamsOut32
params_out32 (answered q) = record { refusal = 0; params = params_numbers32 q }
params_out32 (refused k) = record { refusal = k; params = no_params32 }
