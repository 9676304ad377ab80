-- The loops of the function.
use mathlib.Core.Path.{◌≡◌}
use mathlib.Core.Bool.{true}
use Prim.Native.Nat.{◌-◌, ◌*◌, ◌/◌}
use lib.ListN.{length, drop}
use Rattle.util_defs.specs.Power.{power_of_two}
use Rattle.layout.specs.View.{sized_of}
use Rattle.compose_defs.specs.Compose.{member_step, add_members, members_of}
use Rattle.compose.proofs.add_to_sized.Given as goal

abbrev pub invariant-loop-i : goal.invariant-loop-i
invariant-loop-i l =
    (power_of_two 64 l.own.align ≡ true) × (add_members (member_step 64 l.heed l.repr_packed) l.i-counter (sized_of l.own) (members_of 64 (length l.members / 48 - l.i-counter) (drop (l.i-counter * 48) l.members)) ≡ add_members (member_step 64 l.heed l.repr_packed) 0 (sized_of l.initial.own) (members_of 64 (length l.members / 48) l.members))
