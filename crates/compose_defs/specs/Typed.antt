-- A layout built while the maker types (document 02, request 14): members are added one by one, refused ones skipped.
-- Assumes nothing.
use Rattle.std.specs.Prelude.{◌≡◌, List, [], ◌∷◌, ◌++◌, ℕ, length}
use Rattle.util_defs.specs.Refusal.{Outcome, answered, refused}
use Rattle.layout_defs.specs.Layout.{Layout, check_for}
use Rattle.compose_defs.specs.Compose.{composed, and_then, Member, Step, member_step, ported, begin_for, compose_members}

-- an addition: the working layout, which can hold anything, is tested first; then it is the member step
abbrev pub after_test : Outcome (Unit {0}) → Outcome Layout → Outcome Layout
after_test (answered u) o = o
after_test (refused k) o = refused k

unfoldable pub addition_for : ℕ → ℕ → Step
addition_for w packing l m = after_test (check_for w l) (member_step w ported packing l m)

-- the working layout after it: a refusal alters nothing
abbrev pub added : Outcome Layout → Layout → Layout
added (answered r) l = r
added (refused k) l = l

-- that after a run of additions
unfoldable pub typed : ℕ → ℕ → Layout → List Member → Layout
typed w packing l [] = l
typed w packing l (m ∷ ms) = typed w packing (added (addition_for w packing l m) l) ms

-- the members that were accepted
abbrev pub kept : Outcome Layout → Member → List Member → List Member
kept (answered r) m ms = m ∷ ms
kept (refused k) m ms = ms

unfoldable pub accepted : ℕ → ℕ → Layout → List Member → List Member
accepted w packing l [] = []
accepted w packing l (m ∷ ms) =
    kept (addition_for w packing l m) m (accepted w packing (added (addition_for w packing l m) l) ms)

-- "begun empty, with its own alignment if one is asked for and with one packing kept, after any run of additions, refused ones
-- skipped, equals the composition of the accepted ones before closing padding"
abbrev pub Follows : ℕ → ℕ → ℕ → List Member → Type 0
Follows w align packing ms =
    (l : Layout) → begin_for w ported align packing ≡ answered l
    → compose_members w ported align packing (accepted w packing l ms) ≡ composed (typed w packing l ms)

-- "An addition is refused exactly where the composition would refuse that member next, with its number": of one that comes to l
-- and goes on with m, o is the answer
abbrev pub NextMember : ℕ → ℕ → Layout → Member → Outcome Layout → Type 0
NextMember w packing l m o =
    (align : ℕ) (ms : List Member) → compose_members w ported align packing ms ≡ composed l
    → compose_members w ported align packing (ms ++ (m ∷ [])) ≡ and_then o (length ms) composed

-- so it is after any run
abbrev pub AnswersNext : ℕ → ℕ → ℕ → List Member → Member → Type 0
AnswersNext w align packing ms m =
    (l : Layout) → begin_for w ported align packing ≡ answered l
    → compose_members w ported align packing (accepted w packing l ms ++ (m ∷ []))
    ≡ and_then (addition_for w packing (typed w packing l ms) m) (length (accepted w packing l ms)) composed
