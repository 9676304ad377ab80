-- What v bits keep of numbers, and of what is made of them: all of it, where they hold the numbers. Assumes nothing.
use Rattle.std.specs.Prelude.{ℕ, ◌%◌, ◌^◌, ◌<◌}
use Rattle.util_defs.specs.Refusal.{Outcome, answered, refused}
use Rattle.rounding.specs.Word.{Components}
use Rattle.trailing_defs.specs.Size.{Trailing}
use Rattle.full_defs.specs.Form.{Form}

-- what was answered, by f; a refusal stays
abbrev pub mapped : {S T : Type 0} → (S → T) → Outcome S → Outcome T
mapped f (answered x) = answered (f x)
mapped f (refused k) = refused k

-- the lower v bits
abbrev pub low : ℕ → ℕ → ℕ
low v n = n % 2 ^ v

abbrev pub low_parts : ℕ → Components → Components
low_parts v c = record { align = low v c.align; phase = low v c.phase }

abbrev pub low_tail : ℕ → Trailing → Trailing
low_tail v t =
    record { offset = low v t.offset; elem = low v t.elem; base = low v t.base; word = low v t.word }

abbrev pub low_form : ℕ → Form → Form
low_form v f = record { base = low v f.base; word = low v f.word; elem = low v f.elem }

-- numbers that v bits hold
pub record TailIn (v : ℕ) (t : Trailing) : Type 0 where
  pub offset : t.offset < 2 ^ v
  pub elem : t.elem < 2 ^ v
  pub base : t.base < 2 ^ v
  pub word : t.word < 2 ^ v
