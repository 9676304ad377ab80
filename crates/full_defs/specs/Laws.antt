-- What request 9 of document 02 says of normal forms. Assumes nothing.
use Rattle.std.specs.Prelude.{◌≡◌, ℕ, ◌^◌, ◌<◌}
use Rattle.util_defs.specs.Refusal.{answered}
use Rattle.trailing_defs.specs.Size.{Trailing}
use Rattle.trailing_defs.specs.Sequence.{EqualSizes}
use Rattle.full_defs.specs.Form.{Form, form_for}

-- two layouts that have forms have equal ones exactly when their sizes agree at every count
pub record FormsTell (w : ℕ) (s t : Trailing) (f g : Form) : Type 0 where
  pub there : f ≡ g → EqualSizes w s t
  pub back : EqualSizes w s t → f ≡ g

abbrev pub FormsAgree : ℕ → Type 0
FormsAgree w =
    (s t : Trailing) (f g : Form) → s.word < 2 ^ w → t.word < 2 ^ w → form_for w s ≡ answered f → form_for w t ≡ answered g
    → FormsTell w s t f g

-- a form as a layout, whose offset may be any
abbrev pub layout_in : ℕ → Form → Trailing
layout_in o f = record { offset = o; elem = f.elem; base = f.base; word = f.word }

-- making it twice changes nothing
abbrev pub MadeTwice : ℕ → Type 0
MadeTwice w =
    (t : Trailing) (f : Form) (o : ℕ) → t.word < 2 ^ w → form_for w t ≡ answered f → form_for w (layout_in o f) ≡ answered f
