-- A list of whole records, at any width: it composes to what its members add up to, onto the empty layout. Assumes nothing.
use mathlib.Core.Bool.{Bool}
use mathlib.Core.List.{List}
use mathlib.Core.Path.{◌≡◌, ◌∙◌}
use Prim.Native.Nat.{ℕ, ◌/◌, ◌%◌}
use lib.ListN.{length}
use Rattle.util_defs.specs.Refusal.{answered, refused}
use Rattle.layout_defs.specs.Layout.{Layout}
use Rattle.compose_defs.specs.Compose.{begin_for, member_step, add_members, members_of, compose_for, refused_at}
use Rattle.compose_defs.proofs.Compositions.{members_on, members_off, compose_whole}

pub compose_on : (w : ℕ) (heed : Bool) (a p : ℕ) (s : List ℕ) {l : Layout} → length s % 48 ≡ 0 → begin_for w heed a p ≡ answered l
    → compose_for w heed a p s ≡ add_members (member_step w heed p) 0 l (members_of w (length s / 48) s)
compose_on w heed a p s h e = compose_whole w heed a p s h ∙ members_on w heed a p (members_of w (length s / 48) s) e

pub compose_off : (w : ℕ) (heed : Bool) (a p : ℕ) (s : List ℕ) {k : ℕ} → length s % 48 ≡ 0 → begin_for w heed a p ≡ refused k → compose_for w heed a p s ≡ refused_at k 0
compose_off w heed a p s h e = compose_whole w heed a p s h ∙ members_off w heed a p (members_of w (length s / 48) s) e
