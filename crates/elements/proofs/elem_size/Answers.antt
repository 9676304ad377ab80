-- `elements::elem_size` meets its contract. Assumes nothing.
use Rattle.util.proofs.Told.{handed_on}
use mathlib.Core.Path.{ap}
use Rattle.util_defs.proofs.Tables.{told_by}
use Rattle.layout.specs.View.{info_of, layout_of, check_says}
use Rattle.describe_defs.proofs.Elements.{element_own, element_trailing, element_sized}
use Rattle.elements.proofs.elem_size.Goals as goal

pub returns-in-Sized : goal.returns-in-Sized
returns-in-Sized c =
    element_sized 64 (layout_of c.args.elem) (told_by check_says c.check.ensures.answer c.in_ok-check.was) (ap info_of c.in-Sized.is)

pub returns-in-SliceDst : goal.returns-in-SliceDst
returns-in-SliceDst c =
    element_trailing 64 (layout_of c.args.elem) (told_by check_says c.check.ensures.answer c.in_ok-check.was) (ap info_of c.in-SliceDst.is)

pub returns-in_err-check : goal.returns-in_err-check
returns-in_err-check c =
    handed_on _ c.from_residual.result _ c.from_residual.ensures.1 (element_own 64 (layout_of c.args.elem) (told_by check_says c.check.ensures.answer c.in_err-check.was))
