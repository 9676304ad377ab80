-- The bytes left fall from a part to its members and from them to the part of each; and what the loop over members keeps.
use Rattle.std.proofs.Common.{◌≡◌, ◌+◌, ◌-◌, ◌*◌, ◌≤◌, length}
use Rattle.layout.specs.View.{layout_of}
use Rattle.width.specs.Width.{bits_of, target_of, Held}
use Rattle.describe_defs.specs.Describe.{add_read, part_for}
use Rattle.describe.proofs.+add_members_part.Given as goal

abbrev pub decreases-add_members : goal.decreases-add_members
decreases-add_members g l = 2 * (length l.s.now - l.first) + 1

abbrev pub decreases-read_part : goal.decreases-read_part
decreases-read_part g l = 2 * (length l.s.now - l.at)

abbrev pub invariant-add_members-loop : goal.invariant-add_members-loop
invariant-add_members-loop g l =
    let read = part_for (bits_of g.W.AtWidth.narrow) (target_of g.W.AtWidth.narrow) l.depth l.s in
    (l.first ≤ l.at) × (Held g.W.AtWidth.narrow (layout_of l.own)
    × (add_read (bits_of g.W.AtWidth.narrow) read l.packed l.tag (l.count - l.counter) (layout_of l.own) l.at
    ≡ add_read (bits_of g.W.AtWidth.narrow) read l.packed l.tag l.count (layout_of l.initial.own) l.first))
