-- What the papers say of more than one call, at 32 bits: each is an instance of the law at any width. The other laws stand in the
-- contracts of the functions at 32 bits. Assumes nothing.
use mathlib.Core.Path.{◌≡◌}
use mathlib.Core.List.{List}
use Prim.Native.Nat.{ℕ, ◌^◌, ◌<◌}
use lib.Dec.{lit<}
use Rattle.util_defs.specs.Refusal.{answered}
use Rattle.layout_defs.specs.Layout.{Layout}
use Rattle.padding_defs.specs.Pad.{pad_for}
use Rattle.compose_defs.specs.Compose.{Member}
use Rattle.compose_defs.specs.Places.{NeverMoves}
use Rattle.compose_defs.specs.Typed.{Follows, AnswersNext}
use Rattle.rewrite_defs.specs.Rewrite.{Way}
use Rattle.rewrite_defs.specs.Means.{ThereAndBack, SameLayout}
use Rattle.share_defs.specs.Meaning.{OrderFree}
use Rattle.shift_defs.specs.Mode.{Mode, comparison_of}
use Rattle.guarantee.specs.Demand.{Demand3}
use Rattle.scalar32.specs.Target.{target32}
use Rattle.padding_defs.proofs.Settled as Settled
use Rattle.compose_defs.proofs.Places as Places
use Rattle.compose_defs.proofs.Typed as Typed
use Rattle.rewrite_defs.proofs.Trips as Trips
use Rattle.share_defs.proofs.Order as Order
use Rattle.guarantee.proofs.Demand as Demand

-- demand 3, in either mode
pub demand_3_at_32 : (m : Mode) → Demand3 32 (comparison_of 32 m)
demand_3_at_32 = Demand.demand_3_modes 32 (lit< tt)

-- request 1: a later member moves none before it
pub never_moves : (packing a b : ℕ) (ms ns : List Member) → NeverMoves 32 packing a b ms ns
never_moves = Places.never_moves 32

-- request 14: padding again changes nothing; the working layout follows the composition of the accepted members
pub pad_again : (l : Layout) {r : Layout} → l.align < 2 ^ 32 → pad_for 32 l ≡ answered r → pad_for 32 r ≡ answered r
pad_again l {r} = Settled.pad_again 32 l {r = r}

pub follows : (a p : ℕ) (ms : List Member) → Follows 32 a p ms
follows = Typed.follows 32

pub answers_next : (a p : ℕ) (ms : List Member) (m : Member) → AnswersNext 32 a p ms m
answers_next = Typed.answers_next 32

-- request 8: there and back to the same bytes, and both are read as the same layout
pub there_and_back : (way : Way) → ThereAndBack 32 target32 way
there_and_back = Trips.there_and_back 32 target32

pub both_read : (way : Way) → SameLayout 32 target32 way
both_read = Trips.both_read 32 target32

-- request 12: the order of accepted counts alters only the index
pub order_free : OrderFree 32
order_free = Order.order_free 32
