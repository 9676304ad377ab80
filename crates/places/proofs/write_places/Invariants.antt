-- The loops of the function.
use Rattle.std.proofs.Common.{◌≡◌, length}
use Rattle.make.specs.Make.{empty_layout}
use Rattle.compose_defs.specs.Compose.{members_of}
use Rattle.compose_defs.specs.Places.{places_of, gaps_of}
use Rattle.compose_defs.proofs.Written.{Going}
use Rattle.places.proofs.write_places.Given as goal

abbrev pub invariant-loop-i : goal.invariant-loop-i
invariant-loop-i g l =
    (length l.places ≡ length l.initial.places) × ((length l.gaps ≡ length l.initial.gaps)
    × Going g.W.Steps.bits (g.W.Steps.number l.repr_packed) l.count l.i l.members (places_of (g.W.Steps.number l.repr_packed) (empty_layout (g.W.Steps.number l.fn.repr_align)) (members_of g.W.Steps.bits l.count l.members)) (gaps_of (g.W.Steps.number l.repr_packed) (empty_layout (g.W.Steps.number l.fn.repr_align)) (members_of g.W.Steps.bits l.count l.members)) l.end (g.W.Steps.numbers l.places) (g.W.Steps.numbers l.gaps))
