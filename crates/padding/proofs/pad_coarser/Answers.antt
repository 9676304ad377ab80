-- `padding::pad_coarser` meets its contract. Assumes nothing.
use Rattle.util.proofs.Told.{handed_on}
use mathlib.Core.Path.{◌≡◌, ap, ap₂, ◌∙◌}
use mathlib.Core.List.{[], ◌∷◌}
use Rattle.layout_defs.specs.Extend.{rounding_passes}
use Prim.Native.Nat.{ℕ, ◌+◌, ◌%◌}
use native.Mathlib.Nat.{mod-lt}
use native.Mathlib.Omega.{arith}
use Rattle.util_defs.specs.Round.{up, down}
use Rattle.util_defs.specs.Refusal.{answered, refused, unless}
use Rattle.util_defs.proofs.Powers.{positive, double}
use Rattle.rounding.proofs.Words.{align_is, phase_is}
use Rattle.trailing.specs.View.{trailing_of}
use Rattle.layout_defs.specs.Layout.{trailing}
use Rattle.padding_defs.specs.Pad.{fixed_part, coarser}
use Rattle.layout_defs.proofs.Passes.{within, past, up_told, up_refused}
use Rattle.padding.proofs.pad_coarser.Goals as goal

pub returns-then-rounded_base-parts : goal.returns-then-rounded_base-parts
returns-then-rounded_base-parts c =
    let t = trailing_of c.args.decoded.layout in
    let x = c.args.decoded.is_word in
    let f : up t.base c.args.decoded.parts.align + c.args.decoded.parts.phase ≡ fixed_part 64 t = ap₂ (λ (y z : ℕ). up t.base y + z) (align_is 64 x (omega arith)) (phase_is 64 x (omega arith)) in
    let n = up_told 64 (up t.base c.args.decoded.parts.align) c.round_up_to.result (c.round_up_to.ensures ∙ ap (λ (a : ℕ). unless (rounding_passes 64 (up t.base a) ∷ []) (up t.base a)) c.align.ensures) c.in_ok-rounded_base.was in
    past 64 (fixed_part 64 t) (trailing (coarser 64 c.args.align.value t)) (omega (arith, f, n.0))

pub overflow_add-result : goal.overflow_add-result
overflow_add-result c =
    let v = c.in_ok-rounded_base.rounded_base + c.args.decoded.parts.phase in
    let q = c.args.align.power in
    omega (arith, c.remainder-phase.ensures, mod-lt v (positive q), double 64 q (omega arith))

pub returns : goal.returns
returns c =
    let t = trailing_of c.args.decoded.layout in
    let x = c.args.decoded.is_word in
    let f : up t.base c.args.decoded.parts.align + c.args.decoded.parts.phase ≡ fixed_part 64 t = ap₂ (λ (y z : ℕ). up t.base y + z) (align_is 64 x (omega arith)) (phase_is 64 x (omega arith)) in
    let q = c.args.align.power in
    let n = up_told 64 (up t.base c.args.decoded.parts.align) c.round_up_to.result (c.round_up_to.ensures ∙ ap (λ (a : ℕ). unless (rounding_passes 64 (up t.base a) ∷ []) (up t.base a)) c.align.ensures) c.in_ok-rounded_base.was in
    let v = c.in_ok-rounded_base.rounded_base + c.args.decoded.parts.phase in
    let g : v ≡ fixed_part 64 t = ap (λ (y : ℕ). y + c.args.decoded.parts.phase) n.0 ∙ f in
    let b = c.round_down.ensures ∙ ap (λ (y : ℕ). down y c.args.align.value) g in
    let m = c.remainder-phase.ensures ∙ ap (λ (y : ℕ). y % c.args.align.value) g in
    ap₂ (λ (y z : ℕ). answered (trailing (record { offset = t.offset; elem = t.elem; base = y; word = c.args.align.value + z }))) b m
    ∙ within 64 (fixed_part 64 t) (trailing (coarser 64 c.args.align.value t)) (omega (arith, g))

pub returns-in_err-rounded_base : goal.returns-in_err-rounded_base
returns-in_err-rounded_base c =
    let t = trailing_of c.args.decoded.layout in
    let x = c.args.decoded.is_word in
    let f : up t.base c.args.decoded.parts.align + c.args.decoded.parts.phase ≡ fixed_part 64 t = ap₂ (λ (y z : ℕ). up t.base y + z) (align_is 64 x (omega arith)) (phase_is 64 x (omega arith)) in
    let n = up_refused 64 (up t.base c.args.decoded.parts.align) c.round_up_to.result (c.round_up_to.ensures ∙ ap (λ (a : ℕ). unless (rounding_passes 64 (up t.base a) ∷ []) (up t.base a)) c.align.ensures) c.in_err-rounded_base.was in
    handed_on _ c.from_residual.result _ c.from_residual.ensures.1 (ap refused n.0 ∙ past 64 (fixed_part 64 t) (trailing (coarser 64 c.args.align.value t)) (omega (arith, f, n.1)))
