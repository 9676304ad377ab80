-- Where each member landed (document 02, request 1; the Reference's rule layout.repr.c.struct.size-field-offset).
-- Assumes nothing.
use Rattle.std.specs.Prelude.{◌≡◌, cond, not, ◌&&◌, List, [], ◌∷◌, map, ℕ, ◌+◌, ◌-◌, ◌/◌, ◌≤◌, eqb, length, take}
use Rattle.util_defs.specs.Round.{padding}
use Rattle.util_defs.specs.Refusal.{answered, refused, Cause}
use Rattle.trailing_defs.specs.Size.{Trailing}
use Rattle.layout_defs.specs.Layout.{Info, fixed, trailing, Layout}
use Rattle.layout_defs.specs.Extend.{member_align, preceding_size, place_of, extended, LeastPlace}
use Rattle.make.specs.Make.{empty_layout}
use Rattle.record_defs.specs.Record.{record_length}
use Rattle.compose_defs.specs.Compose.{Composed, composed, refused_at, Member, member_step, ported, add_members, compose_struct}
use Rattle.compose_defs.specs.Compose.{members_of, of_list}

-- the fold's states: each layout so far, and the member that is added to it
abbrev pub State : Type 0
State = Layout × Layout

unfoldable pub states : ℕ → Layout → List Member → List State
states packing l [] = []
states packing l (answered m ∷ ms) = (l, m) ∷ states packing (extended l m packing) ms
states packing l (refused k ∷ ms) = []

-- a member's place, and the gap before it
abbrev pub state_place : ℕ → State → ℕ
state_place packing x = place_of x.0 x.1 packing

abbrev pub state_gap : ℕ → State → ℕ
state_gap packing x = place_of x.0 x.1 packing - preceding_size x.0.info

abbrev pub places_of : ℕ → Layout → List Member → List ℕ
places_of packing l ms = map (state_place packing) (states packing l ms)

abbrev pub gaps_of : ℕ → Layout → List Member → List ℕ
gaps_of packing l ms = map (state_gap packing) (states packing l ms)

-- 24: a lent slice has another length than the member count
abbrev pub bad_slices : ℕ → ℕ → ℕ → Cause
bad_slices count places gaps = record {
  number = 24;
  test = not (eqb places count && eqb gaps count);
  means = (places ≡ count) × (gaps ≡ count) → ⊥;
}

-- the composition with places: 24 at 0, then what the ported composition gives
abbrev pub places_struct : ℕ → ℕ → ℕ → ℕ → ℕ → List Member → Composed
places_struct w align packing places gaps ms =
    cond (bad_slices (length ms) places gaps).test (refused_at 24 0) (compose_struct w ported align packing ms)

unfoldable pub places_for : ℕ → ℕ → ℕ → List ℕ → ℕ → ℕ → Composed
places_for w align packing s places gaps = of_list w (places_struct w align packing places gaps) s

-- a lent slice after it: written in whole; on a refusal, as it was
abbrev pub written : Composed → List ℕ → List ℕ → List ℕ
written (composed l) new old = new
written (refused_at k place) new old = old

-- the members of a list of bytes
abbrev pub listed : ℕ → List ℕ → List Member
listed w s = members_of w (length s / record_length) s

-- the size of a member; a trailing one is the last, and has none here
abbrev pub member_size : Member → ℕ
member_size (answered m) = preceding_size m.info
member_size (refused k) = 0

-- the members stand one after the other from an end on, as far as the last one's: each at the least place behind the end before
-- it that aligns it to the smaller of its own alignment and the packing; the gap lies between
pub data Stand (packing : ℕ) : ℕ → List Member → List ℕ → List ℕ → ℕ → Type 0 where
  none : {end : ℕ} → Stand packing end [] [] [] end
  one : {end last q g : ℕ} {m : Layout} {ms : List Member} {qs gs : List ℕ}
      → LeastPlace end (member_align m.align packing) q → end + g ≡ q
      → Stand packing (q + member_size (answered m)) ms qs gs last
      → Stand packing end (answered m ∷ ms) (q ∷ qs) (g ∷ gs) last

-- the last member is trailing, and its elements begin at o: its place and its own o
pub data ElementsAt (o : ℕ) : List Member → List ℕ → Type 0 where
  here : {m : Layout} {t : Trailing} {q : ℕ} → m.info ≡ trailing t → q + t.offset ≡ o → ElementsAt o (answered m ∷ []) (q ∷ [])
  after : {m : Member} {ms : List Member} {q : ℕ} {qs : List ℕ} → ElementsAt o ms qs → ElementsAt o (m ∷ ms) (q ∷ qs)

-- where a layout ends that begins at 0; a trailing one without its elements: its base
abbrev pub end_of : Info → ℕ
end_of (fixed s) = s
end_of (trailing t) = t.base

-- a member that comes after an end lands at a place, behind a gap, and ends where the next one comes; said of every step that is
-- accepted
abbrev pub Lands : ℕ → ℕ → ℕ → Layout → ℕ → ℕ → ℕ → Type 0
Lands w packing end m place gap next =
    (l r : Layout) → l.info ≡ fixed end → member_step w ported packing l (answered m) ≡ answered r
    → (place ≡ place_of l m packing) × ((end + gap ≡ place) × (next ≡ end_of r.info))

-- members that compose, from the empty layout on
pub record Composes (w align packing : ℕ) (ms : List Member) : Type 0 where
  pub whole : Layout
  pub composes : add_members (member_step w ported packing) 0 (empty_layout align) ms ≡ composed whole

-- gaps and member sizes, added up
abbrev pub total : List ℕ → ℕ
total [] = 0
total (n ∷ ns) = n + total ns

abbrev pub sizes : List Member → ℕ
sizes ms = total (map member_size ms)

-- what was written means, of members that compose to l: they stand so; gaps, member sizes and the closing padding add up to the
-- size of a fixed result, which ends no earlier than its last member; the elements of a trailing one begin where they should
pub record PlacesMean (packing : ℕ) (ms : List Member) (places gaps : List ℕ) (l : Layout) : Type 0 where
  pub last : ℕ
  pub stand : Stand packing 0 ms places gaps last
  pub adds : (s : ℕ) → l.info ≡ fixed s → total gaps + sizes ms + padding last l.align ≡ s
  pub ends : (s : ℕ) → l.info ≡ fixed s → last ≤ s
  pub elements : (t : Trailing) → l.info ≡ trailing t → ElementsAt t.offset ms places

-- of a list of whole records, where it is accepted
abbrev pub ListPlacesMean : ℕ → ℕ → List ℕ → List ℕ → List ℕ → Composed → Type 0
ListPlacesMean w packing s places gaps (composed l) = PlacesMean packing (listed w s) places gaps l
ListPlacesMean w packing s places gaps (refused_at k place) = Unit {0}

-- "changing a member, or any after it, never moves an earlier one": of two accepted lists under one packing, the places of
-- members before an index agree where the members before it do
abbrev pub NeverMoves : ℕ → ℕ → ℕ → ℕ → List Member → List Member → Type 0
NeverMoves w packing a b ms ns =
    (i : ℕ) (k l : Layout) → compose_struct w ported a packing ms ≡ composed k → compose_struct w ported b packing ns ≡ composed l
    → take i ms ≡ take i ns → take i (places_of packing (empty_layout a) ms) ≡ take i (places_of packing (empty_layout b) ns)
