-- `moves::ToShortRecordMove::test` meets its contract. Assumes nothing.
use Rattle.util.proofs.Told.{handed_on}
use mathlib.Core.Path.{sym, ◌∙◌}
use Rattle.util_defs.proofs.Tables.{told_by}
use Rattle.layout.specs.View.{layout_says}
use Rattle.short_defs.proofs.Told.{record_own, record_above, record_fits}
use Rattle.moves.proofs.ToShortRecordMove.test.Goals as goal

pub returns-then-fits_short : goal.returns-then-fits_short
returns-then-fits_short c h = let s = c.args.s.now in sym (record_fits s h (told_by layout_says c.decode.ensures.own c.in_ok-l.was) (sym c.fits_short.ensures ∙ c.if-fits_short.true))

pub returns-else-fits_short : goal.returns-else-fits_short
returns-else-fits_short c h = let s = c.args.s.now in sym (record_above s h (told_by layout_says c.decode.ensures.own c.in_ok-l.was) (sym c.fits_short.ensures ∙ c.if-fits_short.false))

pub returns-in_err-l : goal.returns-in_err-l
returns-in_err-l c h = let s = c.args.s.now in handed_on _ c.from_residual.result _ c.from_residual.ensures.1 (sym (record_own s h (told_by layout_says c.decode.ensures.own c.in_err-l.was)))
