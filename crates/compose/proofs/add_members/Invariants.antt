-- The loops of the function.
use mathlib.Core.Path.{◌≡◌}
use Prim.Native.Nat.{◌-◌, ◌*◌, ◌/◌}
use lib.ListN.{length, drop}
use Rattle.compose_defs.specs.Compose.{member_step, add_members, members_of}
use Rattle.compose.proofs.add_members.Given as goal

abbrev pub invariant-loop-place : goal.invariant-loop-place
invariant-loop-place g l =
    add_members (member_step g.W.Steps.bits l.heed (g.W.Steps.number l.repr_packed)) l.place-counter (g.W.Steps.layout l.l) (members_of g.W.Steps.bits (length l.members / 48 - l.place-counter) (drop (l.place-counter * 48) l.members)) ≡ add_members (member_step g.W.Steps.bits l.heed (g.W.Steps.number l.repr_packed)) l.from (g.W.Steps.layout l.initial.l) (members_of g.W.Steps.bits (length l.members / 48 - l.from) (drop (l.from * 48) l.members))
