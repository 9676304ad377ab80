-- How an outcome at 32 bits crosses to C: the refusal number first, 0 where there is none, and what was answered, 0 where it was
-- refused (but for the count that comes with 15). The numbers are 32 bits wide, the refusal's is not.
-- Numbers and trailing layouts. Assumes nothing.
use Rattle.std.specs.Prelude.{Bool, ℕ}
use Rattle.util_defs.specs.Refusal.{Outcome, answered, refused}
use Rattle.rounding.specs.Word.{Components}
use Rattle.trailing_defs.specs.Size.{Trailing}
use Rattle.trailing_defs.specs.Sized.{SizeOutcome, sized, none_above, refused_by}
use Rattle.exports_numbers.specs.Numbers.{bit}
use Rattle.exports32_numbers.specs.declared.Number32.{Number32}
use Rattle.exports32_numbers.specs.declared.Components32.{Components32}
use Rattle.exports32_numbers.specs.declared.Trailing32.{Trailing32}
use Rattle.exports32_numbers.specs.declared.TrailingAnswer32.{TrailingAnswer32}

abbrev pub number_out32 : Outcome ℕ → Number32
number_out32 (answered n) = record { refusal = 0; value = n }
number_out32 (refused k) = record { refusal = k; value = 0 }

-- a size; beside 15 the greatest count that has one
abbrev pub size_out32 : SizeOutcome → Number32
size_out32 (sized s) = record { refusal = 0; value = s }
size_out32 (none_above g) = record { refusal = 15; value = g }
size_out32 (refused_by k) = record { refusal = k; value = 0 }

abbrev pub decision_out32 : Outcome Bool → Number32
decision_out32 (answered b) = record { refusal = 0; value = bit b }
decision_out32 (refused k) = record { refusal = k; value = 0 }

abbrev pub components_out32 : Outcome Components → Components32
components_out32 (answered c) = record { refusal = 0; align = c.align; phase = c.phase }
components_out32 (refused k) = record { refusal = k; align = 0; phase = 0 }

-- a trailing layout that was handed over
abbrev pub trailing_in32 : Trailing32 → Trailing
trailing_in32 t = record { offset = t.offset; elem = t.elem_size; base = t.size_base; word = t.word }

-- one that comes back; 0 in its place beside a refusal
abbrev pub trailing_words32 : Trailing → Trailing32
trailing_words32 t = record { size_base = t.base; offset = t.offset; elem_size = t.elem; word = t.word }

abbrev pub no_trailing32 : Trailing32
no_trailing32 = record { size_base = 0; offset = 0; elem_size = 0; word = 0 }

abbrev pub trailing_out32 : Outcome Trailing → TrailingAnswer32
trailing_out32 (answered t) = record { refusal = 0; layout = trailing_words32 t }
trailing_out32 (refused k) = record { refusal = k; layout = no_trailing32 }
