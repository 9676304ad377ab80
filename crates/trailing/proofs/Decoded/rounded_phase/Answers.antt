-- `trailing::Decoded::rounded_phase` meets its contract. Assumes nothing.
use Rattle.std.proofs.Common.{ℕ, sym, ap, ◌∙◌, arith}
use Rattle.util_defs.specs.Round.{up}
use Rattle.trailing_defs.proofs.Sizes.{rounded_zero, rounded_phase_lem}
use Rattle.trailing.proofs.Decoded.rounded_phase.Goals as goal

pub returns-then-phase-eq0 : goal.returns-then-phase-eq0
returns-then-phase-eq0 c = sym (ap (λ (x : ℕ). up x c.args.self.parts.align) c.if-phase-eq0.true ∙ rounded_zero c.args.self.parts.align (omega arith))

pub returns-else-phase-eq0 : goal.returns-else-phase-eq0
returns-else-phase-eq0 c = sym (rounded_phase_lem c.args.self.parts.align c.args.self.parts.phase (omega arith) (omega arith))
