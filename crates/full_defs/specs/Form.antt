-- The normal form of a trailing layout (document 02, request 9): base, rounding word and element size alone. Assumes nothing.
use Rattle.std.specs.Prelude.{◌≡◌, cond, List, [], ◌∷◌, ◌⊎◌, ℕ, ◌+◌, ◌-◌, ◌*◌, ◌%◌, ◌≤◌, ◌<◌, eqb, ltb}
use Rattle.util_defs.specs.Width.{M}
use Rattle.util_defs.specs.Power.{PowerOfTwo}
use Rattle.util_defs.specs.Round.{up}
use Rattle.util_defs.specs.Refusal.{Outcome, Cause, unless}
use Rattle.rounding.specs.Word.{IsWord, word_zero}
use Rattle.trailing_defs.specs.Size.{Trailing, A, p, size_with, size_at}
use Rattle.full_defs.specs.Full.{lowest_bit, seen_phase}

-- the base, rounding word and element size of a form
pub record Form : Type 0 where
  pub base : ℕ
  pub word : ℕ
  pub elem : ℕ

-- base, A, phase and element size, unlimited, and the size at count n that they give
pub record Parts : Type 0 where
  pub base : ℕ
  pub align : ℕ
  pub phase : ℕ
  pub elem : ℕ

abbrev pub size_of : Parts → ℕ → ℕ
size_of c n = size_with c.base c.align c.phase (n * c.elem)

-- A is a power of two and the phase is below it
pub record SoundParts (c : Parts) : Type 0 where
  pub power : PowerOfTwo c.align
  pub below : c.phase < c.align

-- a choice of base, A and phase whose sizes, with the element size of t, are those of t. Its base is that of c less `less`, so
-- that bases below 0 are among the choices
pub record Choice (w : ℕ) (t : Trailing) (less : ℕ) (c : Parts) : Type 0 where
  pub sound : SoundParts c
  pub elem : c.elem ≡ t.elem
  pub sizes : (n : ℕ) → size_of c n ≡ less + size_at w t n

-- c has the smaller A, or the same A and no larger a phase
abbrev pub NoLater : Parts → Parts → Type 0
NoLater c d = (c.align < d.align) ⊎ ((c.align ≡ d.align) × (c.phase ≤ d.phase))

-- f is the normal form of t: it is such a choice, and among all of them the one with the least A, then the least phase
pub record IsNormal (w : ℕ) (t : Trailing) (f : Form) : Type 0 where
  pub parts : Parts
  pub base : f.base ≡ parts.base
  pub word : IsWord f.word parts.align parts.phase
  pub elem : f.elem ≡ parts.elem
  pub choice : Choice w t 0 parts
  pub least : (less : ℕ) (c : Parts) → Choice w t less c → NoLater parts c

abbrev pub form : (b word e : ℕ) → Form
form b n e = record { base = b; word = n; elem = e }

-- it, computed (`is_normal_lem`): A is 1 where A divides e, e 0 too. Else A stays; a phase seen as 0 is 0, and the base is the
-- size
-- at 0; any other phase is the least that is seen alike
unfoldable pub form_of : ℕ → Trailing → Form
form_of w t =
    cond (eqb (t.elem % A w t) 0) (form (size_at w t 0) 1 t.elem)
    (cond (eqb (seen_phase w t.elem (A w t) (p w t)) 0) (form (size_at w t 0) (A w t) t.elem)
    (form t.base (A w t + (up (p w t) (lowest_bit w t.elem) - lowest_bit w t.elem + 1)) t.elem))

-- 46: the normal form's base passes M
pub record PastM (w : ℕ) (t : Trailing) : Type 0 where
  pub normal : Form
  pub is_normal : IsNormal w t normal
  pub past : M w < normal.base

abbrev pub base_passes : ℕ → Trailing → Cause
base_passes w t = record { number = 46; test = ltb (M w) (form_of w t).base; means = PastM w t }

abbrev pub form_causes : ℕ → Trailing → List Cause
form_causes w t = word_zero t.word ∷ base_passes w t ∷ []

-- `normal_form`
unfoldable pub form_for : ℕ → Trailing → Outcome Form
form_for w t = unless (form_causes w t) (form_of w t)
