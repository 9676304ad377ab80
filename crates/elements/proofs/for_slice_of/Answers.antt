-- `elements::for_slice_of` meets its contract. Assumes nothing.
use Rattle.util.proofs.Told.{handed_on}
use native.Mathlib.Omega.{arith}
use Rattle.util_defs.proofs.Tables.{told_by}
use Rattle.util.specs.View.{number_says}
use Rattle.layout.specs.View.{layout_of}
use Rattle.describe_defs.proofs.Elements.{slice_off, slice_on, slice_meets}
use Rattle.util_defs.proofs.Refusals.{means}
use Rattle.elements.proofs.for_slice_of.Goals as goal

pub returns-clause-answer : goal.returns-clause-answer
returns-clause-answer c =
    let l = layout_of c.args.elem in slice_on 64 l (told_by number_says c.elem_size.ensures c.in_ok-size.was)

pub returns-clause-meaning : goal.returns-clause-meaning
returns-clause-meaning c =
    let l = layout_of c.args.elem in means (slice_meets 64 l (omega arith)) (returns-clause-answer c)

pub returns-in_err-size-clause-answer : goal.returns-in_err-size-clause-answer
returns-in_err-size-clause-answer c =
    let l = layout_of c.args.elem in handed_on _ c.from_residual.result _ c.from_residual.ensures.1 (slice_off 64 l (told_by number_says c.elem_size.ensures c.in_err-size.was))

pub returns-in_err-size-clause-meaning : goal.returns-in_err-size-clause-meaning
returns-in_err-size-clause-meaning c =
    let l = layout_of c.args.elem in means (slice_meets 64 l (omega arith)) (returns-in_err-size-clause-answer c)
