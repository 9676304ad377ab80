-- `steps32::extend_within` meets its contract. Assumes nothing.
use Rattle.util.proofs.Told.{handed_on}
use mathlib.Core.Path.{sym, ap, ap₂, ◌∙◌}
use Prim.Native.Nat.{ℕ, ◌-◌}
use native.Mathlib.Omega.{arith}
use Rattle.util_defs.proofs.Tables.{told_by}
use Rattle.layout.specs.View.{info_of, layout_of, layout_says}
use Rattle.widths_layouts_defs.specs.Within.{placed_within, step_within}
use Rattle.widths_layouts_defs.proofs.Step.{start_ge}
use Rattle.steps32.proofs.extend_within.Goals as goal

pub overflow_sub-place : goal.overflow_sub-place
overflow_sub-place c =
    let e = told_by layout_says c.extend.ensures.answer c.in_ok-layout.was in
    omega (arith, start_ge 64 (layout_of c.args.own) (layout_of c.args.field) c.args.repr_packed e, c.start.ensures, c.start-2.ensures)

pub returns : goal.returns
returns c =
    let i = info_of c.args.field.size_info in
    c.placed_within.ensures
    ∙ ap₂ (λ (a b : ℕ). placed_within c.args.max (a - b) (layout_of c.in_ok-layout.layout)) c.start.ensures c.start-2.ensures
    ∙ ap (step_within c.args.max i) (sym (told_by layout_says c.extend.ensures.answer c.in_ok-layout.was))

pub returns-in_err-layout : goal.returns-in_err-layout
returns-in_err-layout c =
    handed_on _ c.from_residual.result _ c.from_residual.ensures.1 (ap (step_within c.args.max (info_of c.args.field.size_info)) (sym (told_by layout_says c.extend.ensures.answer c.in_err-layout.was)))
