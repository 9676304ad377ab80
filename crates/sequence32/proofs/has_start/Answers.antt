-- `sequence32::has_start` meets its contract. Assumes nothing.
use Rattle.std.specs.Prelude.{◌≡◌, ℕ, Result, Ok, Err}
use Rattle.std.specs.Result.{is_ok}
use mathlib.Core.Path.{refl, ap, ◌∙◌}
use Rattle.trailing.specs.declared.SizeRefusal.{SizeRefusal}
use Rattle.trailing.specs.declared.SizeRefusal.TheVariants as Why
use Rattle.trailing.specs.View.{size_says}
use Rattle.widths_defs.specs.Within.{is_sized}
use Rattle.sequence32.proofs.has_start.Goals as goal

sized : (r : Result ℕ (SizeRefusal ℕ)) → is_ok r ≡ is_sized (size_says r)
sized (Ok s) = refl
sized (Err (Why.NoSize g)) = refl
sized (Err (Why.Refused k)) = refl

pub returns : goal.returns
returns c = c.is_ok.ensures.value ∙ sized c.size_for_elems.result ∙ ap is_sized c.size_for_elems.ensures.answer
