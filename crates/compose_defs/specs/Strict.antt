-- What the strict composition means (document 02, request 11): it heeds alignment modifiers "and otherwise answers the same".
-- Assumes nothing.
use Rattle.std.specs.Prelude.{◌≡◌, true, List, [], ◌∷◌, ◌⊎◌, ℕ, zero, suc, ◌/◌, ◌%◌, length}
use Rattle.util_defs.specs.Refusal.{Outcome, answered, refused}
use Rattle.layout_defs.specs.Layout.{Layout}
use Rattle.make.specs.Make.{empty_layout, new_zst_for}
use Rattle.record_defs.specs.Record.{record_length}
use Rattle.compose_defs.specs.Compose.{Composed, composed, refused_at, Member, member_step, ported, compose_struct, members_of}

-- a member has an alignment modifier; no member of a list has one
abbrev pub HasModifier : Member → Type 0
HasModifier (answered m) = m.modifier ≡ true
HasModifier (refused k) = ⊥

abbrev pub NoModifier : List Member → Type 0
NoModifier [] = Unit {0}
NoModifier (m ∷ ms) = (HasModifier m → ⊥) × NoModifier ms

-- 49 applies: an alignment and a packing are asked for, and the alignment is accepted
pub record BothApply (w align packing : ℕ) : Type 0 where
  pub own : new_zst_for w align ≡ answered (empty_layout align)
  pub aligned : align ≡ 0 → ⊥
  pub packed : packing ≡ 0 → ⊥

-- what is so of the layout of an outcome, where it has one
abbrev pub OfLayout : Outcome Layout → (Layout → Type 0) → Type 0
OfLayout (answered l) P = P l
OfLayout (refused k) P = ⊥

-- the composition from l on comes to the member at the index, and it is the first that has an alignment modifier
abbrev pub FirstModifier : ℕ → ℕ → Layout → List Member → ℕ → Type 0
FirstModifier w packing l [] i = ⊥
FirstModifier w packing l (m ∷ ms) zero = HasModifier m
FirstModifier w packing l (m ∷ ms) (suc i) =
    (HasModifier m → ⊥) × OfLayout (member_step w ported packing l m) (λ l'. FirstModifier w packing l' ms i)

-- 50 applies at the index: a packing is asked for, an alignment is not, and it comes to such a member there
pub record ModifierApplies (w align packing : ℕ) (ms : List Member) (i : ℕ) : Type 0 where
  pub alone : align ≡ 0
  pub packed : packing ≡ 0 → ⊥
  pub comes : OfLayout (new_zst_for w align) (λ l. FirstModifier w packing l ms i)

-- what an answer means: 49 and 50 come where they apply, else the answer is the ported composition's; where it accepts, no packed
-- composition has a modifier
pub record StrictMeans (w align packing : ℕ) (ms : List Member) (r : Composed) : Type 0 where
  pub both : BothApply w align packing → r ≡ refused_at 49 0
  pub inside : (i : ℕ) → ModifierApplies w align packing ms i → r ≡ refused_at 50 i
  pub same : (BothApply w align packing → ⊥) → ((i : ℕ) → ModifierApplies w align packing ms i → ⊥)
      → r ≡ compose_struct w ported align packing ms
  pub accepts : (l : Layout) → r ≡ composed l → (packing ≡ 0) ⊎ ((align ≡ 0) × NoModifier ms)

-- of a list of whole records; 20 refuses any other
abbrev pub StrictList : ℕ → ℕ → ℕ → List ℕ → Composed → Type 0
StrictList w align packing s r =
    length s % record_length ≡ 0 → StrictMeans w align packing (members_of w (length s / record_length) s) r
