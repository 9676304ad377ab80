-- `elements32::array_within` meets its contract. Assumes nothing.
use Rattle.util.proofs.Told.{handed_on}
use mathlib.Core.Path.{sym, ap, ◌∙◌}
use mathlib.Core.Bool.{Bool, cond}
use Rattle.util_defs.specs.Refusal.{answered, refused}
use Rattle.util_defs.proofs.Tables.{told_by}
use Rattle.layout.specs.View.{layout_of, layout_says}
use Rattle.elements32.specs.Within.{array_within}
use Rattle.elements32.proofs.array_within.Goals as goal

pub returns-then-closed_within : goal.returns-then-closed_within
returns-then-closed_within c =
    let l = layout_of c.in_ok-array.array in
    let e = told_by layout_says c.for_array.ensures.answer c.in_ok-array.was in
    let b = sym c.closed_within.ensures ∙ c.if-closed_within.true in
    sym (ap (array_within c.args.max) e ∙ ap (λ (x : Bool). cond x (answered l) (refused 37)) b)

pub returns-else-closed_within : goal.returns-else-closed_within
returns-else-closed_within c =
    let l = layout_of c.in_ok-array.array in
    let e = told_by layout_says c.for_array.ensures.answer c.in_ok-array.was in
    let b = sym c.closed_within.ensures ∙ c.if-closed_within.false in
    sym (ap (array_within c.args.max) e ∙ ap (λ (x : Bool). cond x (answered l) (refused 37)) b)

pub returns-in_err-array : goal.returns-in_err-array
returns-in_err-array c = handed_on _ c.from_residual.result _ c.from_residual.ensures.1 (ap (array_within c.args.max) (sym (told_by layout_says c.for_array.ensures.answer c.in_err-array.was)))
