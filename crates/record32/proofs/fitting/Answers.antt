-- `record32::fitting` meets its contract. Assumes nothing.
use Prim.Native.Nat.{ℕ}
use Rattle.layout.specs.declared.DstLayout.{DstLayout}
use Rattle.util.specs.declared.refusal.Refusal.{Refusal}
use Rattle.std.specs.Prelude.{Result}
use Rattle.util.proofs.Told.{handed_on}
use mathlib.Core.Path.{sym, ap, ◌∙◌}
use Rattle.util_defs.specs.Refusal.{answered}
use Rattle.layout.specs.View.{layout_of, layout_says}
use Rattle.record_defs.specs.Record.{fits_in, fitted}
use Rattle.record32.proofs.Narrowed.{fitted_low, fitted_passes}
use Rattle.record32.proofs.fitting.Goals as goal

pub returns-then-fits : goal.returns-then-fits
returns-then-fits c = let l = layout_of c.in_ok-layout.layout in ap answered c.low_layout.ensures ∙ fitted_low 32 l (ap (fits_in 32) (sym c.words_from_layout.ensures) ∙ sym c.fits.ensures ∙ c.if-fits.true) ∙ sym (ap (λ (a : Result (DstLayout ℕ) Refusal). fitted 32 (layout_says a)) c.in_ok-layout.was)

pub returns-else-fits : goal.returns-else-fits
returns-else-fits c = let l = layout_of c.in_ok-layout.layout in fitted_passes 32 l (ap (fits_in 32) (sym c.words_from_layout.ensures) ∙ sym c.fits.ensures ∙ c.if-fits.false) ∙ sym (ap (λ (a : Result (DstLayout ℕ) Refusal). fitted 32 (layout_says a)) c.in_ok-layout.was)

pub returns-in_err-layout : goal.returns-in_err-layout
returns-in_err-layout c = handed_on _ c.from_residual.result _ c.from_residual.ensures.1 (sym (ap (λ (a : Result (DstLayout ℕ) Refusal). fitted 32 (layout_says a)) c.in_err-layout.was))
