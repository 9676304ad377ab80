-- How the buffer that serves crosses to C. Assumes nothing.
use Rattle.std.specs.Prelude.{ℕ}
use Rattle.util_defs.specs.Refusal.{Outcome, answered, refused}
use Rattle.front_defs.specs.Front.{Serving, of_map, of_spare, of_neither}
use Rattle.exports_front.specs.declared.ServingOut.{ServingOut}

-- the number by which each cast was refused, 0 where it was not; which serves: 0 neither, 1 the map, 2 the spare; what its cast
-- granted
abbrev pub serving_out : Serving → ServingOut
serving_out (of_map g) =
    record { map_refusal = 0; spare_refusal = 0; serves = 1; count = g.count; split = g.split }
serving_out (of_spare k g) =
    record { map_refusal = k; spare_refusal = 0; serves = 2; count = g.count; split = g.split }
serving_out (of_neither k j) =
    record { map_refusal = k; spare_refusal = j; serves = 0; count = 0; split = 0 }

-- a layout that is refused refuses both casts
abbrev pub serving_out_of : Outcome Serving → ServingOut
serving_out_of (answered x) = serving_out x
serving_out_of (refused k) = serving_out (of_neither k k)
