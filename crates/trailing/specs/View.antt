-- What the types of this crate are, over numbers: document 01's number and values for each case of an answer. Assumes nothing.
use Rattle.std.specs.Prelude.{ℕ, Result, Ok, Err}
use Rattle.util_defs.specs.Refusal.{Outcome}
use Rattle.util.specs.View.{number_of, says}
use Rattle.util.specs.declared.refusal.Refusal.{Refusal}
use Rattle.trailing_defs.specs.Size.{Trailing}
use Rattle.trailing_defs.specs.Sized.{SizeOutcome, sized, none_above, refused_by}
use Rattle.trailing.specs.declared.TrailingSliceLayout.{TrailingSliceLayout}
use Rattle.trailing.specs.declared.SizeRefusal.{SizeRefusal}

abbrev pub trailing_of : TrailingSliceLayout ℕ → Trailing
trailing_of l = record {
  offset = l.offset;
  elem = l.elem_size;
  base = l.size_base;
  word = l.size_rounding_align_and_phase.0;
}

-- why there is no size; a size, or that
abbrev pub no_size_says : SizeRefusal ℕ → SizeOutcome
no_size_says (SizeRefusal.NoSize g) = none_above g
no_size_says (SizeRefusal.Refused r) = refused_by (number_of r)

abbrev pub size_says : Result ℕ (SizeRefusal ℕ) → SizeOutcome
size_says (Ok n) = sized n
size_says (Err r) = no_size_says r

abbrev pub advance_says : Result (TrailingSliceLayout ℕ) Refusal → Outcome Trailing
advance_says = says trailing_of
