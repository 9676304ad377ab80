-- How an outcome crosses to C: the refusal number first, 0 where there is none, and what was answered, 0 where it was refused
-- (but for the count that comes with 15).
-- Numbers and trailing layouts. Assumes nothing.
use Rattle.std.specs.Prelude.{Bool, true, false, ℕ}
use Rattle.util_defs.specs.Refusal.{Outcome, answered, refused}
use Rattle.rounding.specs.Word.{Components}
use Rattle.trailing_defs.specs.Size.{Trailing}
use Rattle.trailing_defs.specs.Sized.{SizeOutcome, sized, none_above, refused_by}
use Rattle.exports_numbers.specs.declared.Number.{Number}
use Rattle.exports_numbers.specs.declared.Components as declared
use Rattle.exports_numbers.specs.declared.Trailing as given
use Rattle.exports_numbers.specs.declared.TrailingAnswer.{TrailingAnswer}

abbrev pub number_out : Outcome ℕ → Number
number_out (answered n) = record { refusal = 0; value = n }
number_out (refused k) = record { refusal = k; value = 0 }

-- a size; beside 15 the greatest count that has one
abbrev pub size_out : SizeOutcome → Number
size_out (sized s) = record { refusal = 0; value = s }
size_out (none_above g) = record { refusal = 15; value = g }
size_out (refused_by k) = record { refusal = k; value = 0 }

-- a yes is 1, a no is 0
abbrev pub bit : Bool → ℕ
bit true = 1
bit false = 0

abbrev pub decision_out : Outcome Bool → Number
decision_out (answered b) = record { refusal = 0; value = bit b }
decision_out (refused k) = record { refusal = k; value = 0 }

abbrev pub components_out : Outcome Components → declared.Components
components_out (answered c) = record { refusal = 0; align = c.align; phase = c.phase }
components_out (refused k) = record { refusal = k; align = 0; phase = 0 }

-- a trailing layout that was handed over
abbrev pub trailing_in : given.Trailing → Trailing
trailing_in t = record { offset = t.offset; elem = t.elem_size; base = t.size_base; word = t.word }

-- one that comes back; 0 in its place beside a refusal
abbrev pub trailing_words : Trailing → given.Trailing
trailing_words t = record { size_base = t.base; offset = t.offset; elem_size = t.elem; word = t.word }

abbrev pub no_trailing : given.Trailing
no_trailing = record { size_base = 0; offset = 0; elem_size = 0; word = 0 }

abbrev pub trailing_out : Outcome Trailing → TrailingAnswer
trailing_out (answered t) = record { refusal = 0; layout = trailing_words t }
trailing_out (refused k) = record { refusal = k; layout = no_trailing }
