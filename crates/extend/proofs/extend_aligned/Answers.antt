-- `extend::extend_aligned` meets its contract. Assumes nothing.
use Rattle.util.proofs.Told.{handed_on}
use Rattle.std.proofs.Common.{ap, ◌∙◌, arith}
use Rattle.util_defs.specs.Round.{up}
use Rattle.util_defs.specs.Refusal.{refused}
use Rattle.layout_defs.specs.Extend.{extended}
use Rattle.layout.specs.View.{layout_of}
use Rattle.layout_defs.proofs.Passes.{up_told, up_refused}
use Rattle.layout_defs.proofs.Steps.{step_placed, step_past}
use Rattle.extend.proofs.extend_aligned.Goals as goal

pub returns : goal.returns
unfolding extended
returns c = λ packing e.
    let own = c.args.own in
    let n = up_told 64 (up own.size c.args.field_align.value) c.round_up_to.result c.round_up_to.ensures c.in_ok-place.was in
    c.extend_at.ensures ∙ simp (n.0, e) (step_placed 64 own.align own.size own.statically_shallow_unpadded own.align_modifier (layout_of c.args.field) packing (omega (arith, n.1, ap (up own.size) e)))

pub returns-in_err-place : goal.returns-in_err-place
returns-in_err-place c = λ packing e.
    let own = c.args.own in
    let n = up_refused 64 (up own.size c.args.field_align.value) c.round_up_to.result c.round_up_to.ensures c.in_err-place.was in
    handed_on _ c.from_residual.result _ c.from_residual.ensures.1 (ap refused n.0 ∙ step_past 64 own.align own.size own.statically_shallow_unpadded own.align_modifier (layout_of c.args.field) packing (omega (arith, n.1, ap (up own.size) e)))
