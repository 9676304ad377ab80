-- `moves_back::FromShortRecordMove::test` meets its contract. Assumes nothing.
use Rattle.util.proofs.Told.{handed_on}
use mathlib.Core.Path.{sym}
use Rattle.util_defs.proofs.Tables.{told_by}
use Rattle.layout.specs.View.{layout_says}
use Rattle.short_defs.proofs.Told.{short_own, short_on}
use Rattle.moves_back.proofs.FromShortRecordMove.test.Goals as goal

pub returns : goal.returns
returns c h = let s = c.args.s.now in sym (short_on s h (told_by layout_says c.decode_short.ensures.answer c.in_ok-decode_short.was))

pub returns-in_err-decode_short : goal.returns-in_err-decode_short
returns-in_err-decode_short c h = let s = c.args.s.now in handed_on _ c.from_residual.result _ c.from_residual.ensures.1 (sym (short_own s h (told_by layout_says c.decode_short.ensures.answer c.in_err-decode_short.was)))
