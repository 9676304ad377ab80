-- `converts32::try_compute` meets its contract. Assumes nothing.
use Rattle.layout.specs.View.{layout_of}
use mathlib.Core.Path.{sym, ap₂, ◌∙◌}
use mathlib.Core.Bool.{Bool}
use lib.Dec.{lit<}
use native.Mathlib.Omega.{arith}
use Rattle.util_defs.specs.Refusal.{Outcome}
use Rattle.shift_defs.specs.Mode.{comparison_of}
use Rattle.shift.specs.View.{mode_of}
use Rattle.convert_defs.specs.Convert.{Params, compute_for}
use Rattle.convert_defs.proofs.Conversions.{compute_meets}
use Rattle.widths_defs.specs.Low.{mapped}
use Rattle.widths_layouts_defs.proofs.Layouts.{fits_width}
use Rattle.widths_converts_defs.specs.Low.{low_params}
use Rattle.widths_converts_defs.specs.Within.{compute_within}
use Rattle.widths_converts_defs.proofs.Converting.{compute_low}
use Rattle.util_defs.proofs.Refusals.{means}
use Rattle.converts32.proofs.try_compute.Goals as goal

pub returns-clause-answer : goal.returns-clause-answer
returns-clause-answer c =
    let q = c.wide_layout-src.ensures in
    let r = c.wide_layout-dst.ensures in
    let s = layout_of c.args.src_layout in
    let t = layout_of c.args.dst_layout in
    let m = mode_of c.args.mode in c.compute_within.ensures
    ∙ ap₂ (λ (b : Bool) (o : Outcome Params). mapped (low_params 32) (compute_within b o)) c.starts_in-start.ensures
    (c.try_compute.ensures.answer ∙ ap₂ (compute_for 64 (comparison_of 64 m)) q.0 r.0)
    ∙ sym (compute_low m 32 64 s t (omega arith) (lit< tt) q.1 r.1)

pub returns-clause-meaning : goal.returns-clause-meaning
returns-clause-meaning c =
    let q = c.wide_layout-src.ensures in
    let r = c.wide_layout-dst.ensures in
    let s = layout_of c.args.src_layout in
    let t = layout_of c.args.dst_layout in
    let m = mode_of c.args.mode in means (compute_meets 32 (comparison_of 32 m) s t q.1.align r.1.align (lit< tt)) (returns-clause-answer c)

pub returns-clause-fits : goal.returns-clause-fits
returns-clause-fits c =
    let q = c.wide_layout-src.ensures in
    let r = c.wide_layout-dst.ensures in
    let s = layout_of c.args.src_layout in
    let t = layout_of c.args.dst_layout in
    (fits_width 32 s q.1, fits_width 32 t r.1)
