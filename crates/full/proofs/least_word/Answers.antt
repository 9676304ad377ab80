-- `full::least_word` meets its contract. Assumes nothing.
use mathlib.Core.Path.{sym, ap, ◌∙◌, subst}
use Prim.Native.Nat.{ℕ, ◌+◌, ◌-◌, ◌^◌, ◌<◌}
use mir.Facts.{Fits-bits}
use native.Mathlib.Omega.{arith}
use Rattle.util_defs.specs.Round.{up}
use Rattle.full_defs.proofs.Masks.{unit, rounding_fits, least_parts}
use Rattle.full.proofs.least_word.Goals as goal

pub lowest_bit-unit-requires : goal.lowest_bit-unit-requires
lowest_bit-unit-requires c = (unit 64 c.args.elem c.args.align.power (omega arith) c.requires.1).some

pub round_up-requires : goal.round_up-requires
round_up-requires c =
    let u = unit 64 c.args.elem c.args.align.power (omega arith) c.requires.1 in
    subst (λ (g : ℕ). c.args.phase + (g - 1) < 2 ^ 64) (sym c.lowest_bit-unit.ensures) (rounding_fits 64 c.args.phase c.args.align.power (omega arith) c.requires.0 u.below)

pub overflow_sub-result : goal.overflow_sub-result
overflow_sub-result c =
    let l = least_parts 64 c.args.elem c.args.phase c.args.align.power (omega arith) c.requires.0 c.requires.1 c.requires.2 in
    omega (arith, l.0, c.lowest_bit-unit.ensures)

pub overflow_sub-result-2 : goal.overflow_sub-result-2
overflow_sub-result-2 c =
    let l = least_parts 64 c.args.elem c.args.phase c.args.align.power (omega arith) c.requires.0 c.requires.1 c.requires.2 in
    let r = c.round_up.ensures ∙ ap (up c.args.phase) c.lowest_bit-unit.ensures in
    omega (arith, l.1.0, r, c.lowest_bit-unit.ensures)

pub overflow_add-result : goal.overflow_add-result
overflow_add-result c =
    let l = least_parts 64 c.args.elem c.args.phase c.args.align.power (omega arith) c.requires.0 c.requires.1 c.requires.2 in
    let r = c.round_up.ensures ∙ ap (up c.args.phase) c.lowest_bit-unit.ensures in
    Fits-bits 64 tt (omega (arith, l.0, l.1.0, l.1.1, r, c.lowest_bit-unit.ensures))

pub returns : goal.returns
returns c =
    let l = least_parts 64 c.args.elem c.args.phase c.args.align.power (omega arith) c.requires.0 c.requires.1 c.requires.2 in
    let r = c.round_up.ensures ∙ ap (up c.args.phase) c.lowest_bit-unit.ensures in
    omega (arith, l.0, l.1.0, r, c.lowest_bit-unit.ensures)
