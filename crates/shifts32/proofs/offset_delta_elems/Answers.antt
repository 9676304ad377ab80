-- `shifts32::offset_delta_elems` meets its contract. Assumes nothing.
use Rattle.layout.specs.View.{layout_of}
use mathlib.Core.Path.{sym, ap₂, ◌∙◌}
use mathlib.Core.Bool.{Bool}
use lib.Dec.{lit<}
use native.Mathlib.Omega.{arith}
use Rattle.util_defs.specs.Refusal.{Outcome}
use Rattle.shift_defs.specs.Mode.{comparison_of}
use Rattle.shift_defs.specs.Shift.{Shift, shift_for}
use Rattle.shift_defs.proofs.Shifts.{shift_meets}
use Rattle.shift.specs.View.{mode_of}
use Rattle.widths_defs.specs.Low.{mapped}
use Rattle.widths_converts_defs.specs.Within.{shift_within, low_shift}
use Rattle.widths_converts_defs.proofs.Shifts.{shift_low}
use Rattle.util_defs.proofs.Refusals.{means}
use Rattle.shifts32.proofs.offset_delta_elems.Goals as goal

pub returns-clause-answer : goal.returns-clause-answer
returns-clause-answer c =
    let q = c.wide_layout-src.ensures in
    let r = c.wide_layout-dst.ensures in
    let s = layout_of c.args.src_layout in
    let t = layout_of c.args.dst_layout in
    let m = mode_of c.args.mode in c.shift_within.ensures
    ∙ ap₂ (λ (b : Bool) (o : Outcome Shift). mapped (low_shift 32) (mapped (shift_within b) o)) c.starts_in-start.ensures
    (c.offset_delta_elems.ensures.answer ∙ ap₂ (shift_for 64 (comparison_of 64 m)) q.0 r.0)
    ∙ sym (shift_low m 32 64 s t (omega arith) (lit< tt) q.1 r.1)

pub returns-clause-meaning : goal.returns-clause-meaning
returns-clause-meaning c =
    let q = c.wide_layout-src.ensures in
    let r = c.wide_layout-dst.ensures in
    let s = layout_of c.args.src_layout in
    let t = layout_of c.args.dst_layout in
    let m = mode_of c.args.mode in means (shift_meets 32 (comparison_of 32 m) s t q.1.align r.1.align (lit< tt)) (returns-clause-answer c)
