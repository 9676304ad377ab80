-- What the types of this crate are, over numbers: document 01's number and values for each case of an answer. Assumes nothing.
use Rattle.std.specs.Prelude.{ℕ, Result}
use Rattle.util_defs.specs.Refusal.{Outcome}
use Rattle.util.specs.View.{says}
use Rattle.util.specs.declared.refusal.Refusal.{Refusal}
use Rattle.rounding.specs.Word.{Components}
use Rattle.rounding.specs.declared.RoundingAlignAndPhase.{RoundingAlignAndPhase}
use Rattle.rounding.specs.declared.Components as Declared

-- the number that a word is
abbrev pub word_of : RoundingAlignAndPhase ℕ → ℕ
word_of r = r.0

abbrev pub new_says : Result (RoundingAlignAndPhase ℕ) Refusal → Outcome ℕ
new_says = says word_of

-- the parts of a word
abbrev pub parts_of : Declared.Components ℕ → Components
parts_of c = record { align = c.align; phase = c.phase }

abbrev pub components_says : Result (Declared.Components ℕ) Refusal → Outcome Components
components_says = says parts_of
