-- How the buffer that serves at 32 bits crosses to C. Assumes nothing.
use Rattle.std.specs.Prelude.{ℕ}
use Rattle.util_defs.specs.Refusal.{Outcome, answered, refused}
use Rattle.front_defs.specs.Front.{Serving, of_map, of_spare, of_neither}
use Rattle.exports32_front.specs.declared.ServingOut32.{ServingOut32}

-- the number by which each cast was refused, 0 where it was not; which serves: 0 neither, 1 the map, 2 the spare; what its cast
-- granted
abbrev pub serving_out32 : Serving → ServingOut32
serving_out32 (of_map g) =
    record { map_refusal = 0; spare_refusal = 0; serves = 1; count = g.count; split = g.split }
serving_out32 (of_spare k g) =
    record { map_refusal = k; spare_refusal = 0; serves = 2; count = g.count; split = g.split }
serving_out32 (of_neither k j) =
    record { map_refusal = k; spare_refusal = j; serves = 0; count = 0; split = 0 }

-- a layout that is refused refuses both casts
abbrev pub serving_out_of32 : Outcome Serving → ServingOut32
serving_out_of32 (answered x) = serving_out32 x
serving_out_of32 (refused k) = serving_out32 (of_neither k k)
