-- What the layouts made of numbers are, at any width w. Assumes nothing.
use mathlib.Core.Path.{◌≡◌, refl, sym, ap, ◌∙◌}
use mathlib.Core.Bool.{Bool}
use mathlib.Core.List.{[], ◌∷◌}
use Prim.Native.Nat.{ℕ, ◌%◌, ◌^◌, ◌<◌}
use borrow.Author.Tests.{eq-eqb, ne_eqb}
use Rattle.util_defs.specs.Refusal.{answered, refused, unless, Meets, Decided}
use Rattle.util_defs.specs.Helpers.{align_causes}
use Rattle.util_defs.proofs.Refusals.{tells_eq, tells_not, meets}
use Rattle.util_defs.proofs.Helpers.{align_decided}
use Rattle.util_defs.proofs.Tables.{answer_is, accepted_first, refused_first}
use Rattle.make.specs.Make.{asked, empty_layout, new_zst_for, size_not_multiple, type_causes, type_layout, type_for, slice_layout, slice_for}

pub zst_meets : (w a : ℕ) → asked a < 2 ^ w → Meets (align_causes w (asked a)) (λ l. l ≡ empty_layout a) (new_zst_for w a)
unfolding new_zst_for
zst_meets w a h = meets (align_causes w (asked a)) (empty_layout a) (align_decided w (asked a) h, λ _. tt) (λ _. refl)

pub type_decided : (w size a : ℕ) → a < 2 ^ w → Decided (type_causes w size a)
type_decided w size a h = (align_decided w a h, λ _. (tells_not (tells_eq (size % a) 0), λ _. tt))

pub type_meets : (w : ℕ) (mark : Bool) (size a : ℕ) → a < 2 ^ w → Meets (type_causes w size a) (λ l. l ≡ type_layout mark size a) (type_for w mark size a)
unfolding type_for
type_meets w mark size a h = meets (type_causes w size a) (type_layout mark size a) (type_decided w size a h) (λ _. refl)

pub slice_meets : (w size a : ℕ) → a < 2 ^ w → Meets (type_causes w size a) (λ l. l ≡ slice_layout size a) (slice_for w size a)
unfolding slice_for
slice_meets w size a h = meets (type_causes w size a) (slice_layout size a) (type_decided w size a h) (λ _. refl)

-- what an alignment that was made tells of a type's table: nothing is refused of a multiple of it, and else 4
pub multiple : {T : Type 0} {z : ℕ} (w size a : ℕ) (x : T) → unless (align_causes w a) a ≡ answered z → size % z ≡ 0 → unless (type_causes w size a) x ≡ answered x
unfolding unless
multiple w size a x e h =
    accepted_first (align_causes w a) (size_not_multiple size a ∷ []) a x e
    ∙ simp (eq-eqb (size % a) 0 (ap (λ (y : ℕ). size % y) (sym (answer_is (align_causes w a) a e)) ∙ h))

pub no_multiple : {T : Type 0} {z : ℕ} (w size a : ℕ) (x : T) → unless (align_causes w a) a ≡ answered z → (size % z ≡ 0 → ⊥) → unless (type_causes w size a) x ≡ refused 4
unfolding unless
no_multiple w size a x e h =
    accepted_first (align_causes w a) (size_not_multiple size a ∷ []) a x e
    ∙ simp (ne_eqb (size % a) 0 (λ z. h (ap (λ (y : ℕ). size % y) (answer_is (align_causes w a) a e) ∙ z)))

-- and where none was made, its refusal
pub no_align : {T : Type 0} {k : ℕ} (w size a : ℕ) (x : T) → unless (align_causes w a) a ≡ refused k → unless (type_causes w size a) x ≡ refused k
no_align w size a x e = refused_first (align_causes w a) (size_not_multiple size a ∷ []) a x e
