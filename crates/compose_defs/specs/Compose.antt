-- The composition of a member list (document 01, `for_repr_c_struct`; the Reference's rule
-- layout.repr.c.struct.size-field-offset), and a strict one beside it (document 02, request 11; its rule
-- layout.repr.alignment.constraint-exclusive). Assumes nothing.
use Rattle.std.specs.Prelude.{◌≡◌, Bool, true, false, cond, not, ◌&&◌, List, [], ◌∷◌, ◌++◌, ℕ, zero, suc, ◌-◌, ◌*◌, ◌/◌, ◌%◌}
use Rattle.std.specs.Prelude.{eqb, length, take, drop}
use Rattle.util_defs.specs.Refusal.{Outcome, answered, refused, Cause, unless}
use Rattle.util_defs.specs.Helpers.{align_causes}
use Rattle.layout_defs.specs.Layout.{Layout}
use Rattle.make.specs.Make.{asked, empty_layout}
use Rattle.layout_defs.specs.Extend.{extended, extend_causes}
use Rattle.padding_defs.specs.Pad.{pad_for}
use Rattle.record_defs.specs.Record.{record_length, decode_for}

-- a composed layout, or a refusal with its place: the index of the member at fault, the member count for final padding, else 0
pub data Composed : Type 0 where
  composed : Layout → Composed
  refused_at : (number place : ℕ) → Composed

-- a member: its layout, or what refuses its record
abbrev pub Member : Type 0
Member = Outcome Layout

-- an outcome at a place, and what goes on from it
abbrev pub and_then : Outcome Layout → ℕ → (Layout → Composed) → Composed
and_then (answered l) place f = f l
and_then (refused k) place f = refused_at k place

abbrev pub bind : Composed → (Layout → Composed) → Composed
bind (composed l) f = f l
bind (refused_at k place) f = refused_at k place

-- 49: an alignment and a packing are both asked for
abbrev pub both_asked : ℕ → ℕ → Cause
both_asked align packing = record {
  number = 49;
  test = not (eqb align 0) && not (eqb packing 0);
  means = (align ≡ 0 → ⊥) × (packing ≡ 0 → ⊥);
}

-- 50: a packed composition takes a member with an alignment modifier
abbrev pub modifier_in_packed : ℕ → Layout → Cause
modifier_in_packed packing m = record {
  number = 50;
  test = not (eqb packing 0) && m.modifier;
  means = (packing ≡ 0 → ⊥) × (m.modifier ≡ true);
}

-- whether a composition heeds them: the ported one does not, the strict one does
abbrev pub ported : Bool
ported = false

abbrev pub strict : Bool
strict = true

abbrev pub heeded : Bool → Cause → List Cause
heeded true c = c ∷ []
heeded false c = []

-- the empty layout that a composition begins with: 49 after its own alignment
abbrev pub begin_causes : ℕ → Bool → ℕ → ℕ → List Cause
begin_causes w heed align packing = align_causes w (asked align) ++ heeded heed (both_asked align packing)

unfoldable pub begin_for : ℕ → Bool → ℕ → ℕ → Outcome Layout
begin_for w heed align packing = unless (begin_causes w heed align packing) (empty_layout align)

-- one member more: its record, then 50, then the step
abbrev pub Step : Type 0
Step = Layout → Member → Outcome Layout

abbrev pub member_causes : ℕ → Bool → ℕ → Layout → Layout → List Cause
member_causes w heed packing l m = heeded heed (modifier_in_packed packing m) ++ extend_causes w l m packing

abbrev pub member_step : ℕ → Bool → ℕ → Step
member_step w heed packing l (answered m) = unless (member_causes w heed packing l m) (extended l m packing)
member_step w heed packing l (refused k) = refused k

-- the members in turn by a step, of which the first has the index i
unfoldable pub add_members : Step → ℕ → Layout → List Member → Composed
add_members step i l [] = composed l
add_members step i l (m ∷ ms) = and_then (step l m) i (λ l'. add_members step (suc i) l' ms)

-- the composition before closing padding: the empty layout, then each member
abbrev pub compose_members : ℕ → Bool → ℕ → ℕ → List Member → Composed
compose_members w heed align packing ms =
    and_then (begin_for w heed align packing) 0 (λ l. add_members (member_step w heed packing) 0 l ms)

-- the composition: closing padding at the member count
abbrev pub compose_struct : ℕ → Bool → ℕ → ℕ → List Member → Composed
compose_struct w heed align packing ms =
    bind (compose_members w heed align packing ms) (λ l. and_then (pad_for w l) (length ms) composed)

-- a member list is records end to end: n of them, decoded
unfoldable pub members_of : ℕ → ℕ → List ℕ → List Member
members_of w zero s = []
members_of w (suc n) s = decode_for w (take record_length s) ∷ members_of w n (drop record_length s)

-- those of a list from the one with the index i on
abbrev pub members_from : ℕ → ℕ → List ℕ → List Member
members_from w i s = members_of w (length s / record_length - i) (drop (i * record_length) s)

-- 20 at 0 for a list whose length is no multiple of a record's; else what its members compose to
abbrev pub of_list : ℕ → (List Member → Composed) → List ℕ → Composed
of_list w f s = cond (eqb (length s % record_length) 0) (f (members_of w (length s / record_length) s)) (refused_at 20 0)

-- `compose`, before closing padding, and `for_repr_c_struct`, with it, of the ported composition or of the strict one
unfoldable pub compose_for : ℕ → Bool → ℕ → ℕ → List ℕ → Composed
compose_for w heed align packing s = of_list w (compose_members w heed align packing) s

unfoldable pub struct_for : ℕ → Bool → ℕ → ℕ → List ℕ → Composed
struct_for w heed align packing s = of_list w (compose_struct w heed align packing) s
