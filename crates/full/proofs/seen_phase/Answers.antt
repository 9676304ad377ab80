-- `full::seen_phase` meets its contract. Assumes nothing.
use Rattle.std.proofs.Common.{ℕ, ◌+◌, ◌-◌, ◌%◌, ◌^◌, ◌<◌, sym, ap, ◌∙◌, subst, arith}
use Rattle.util_defs.specs.Round.{up}
use Rattle.full_defs.proofs.Masks.{unit, rounding_fits}
use Rattle.full.proofs.seen_phase.Goals as goal

pub lowest_bit-requires : goal.lowest_bit-requires
lowest_bit-requires c = (unit 64 c.args.elem c.args.align.power (omega arith) c.requires.1).some

pub round_up-rounded-requires : goal.round_up-rounded-requires
round_up-rounded-requires c =
    let u = unit 64 c.args.elem c.args.align.power (omega arith) c.requires.1 in
    subst (λ (g : ℕ). c.args.phase + (g - 1) < 2 ^ 64) (sym c.lowest_bit.ensures) (rounding_fits 64 c.args.phase c.args.align.power (omega arith) c.requires.0 u.below)

pub returns : goal.returns
returns c =
    c.remainder.ensures
    ∙ ap (λ (x : ℕ). x % c.args.align.value) (c.round_up-rounded.ensures ∙ ap (up c.args.phase) c.lowest_bit.ensures)
