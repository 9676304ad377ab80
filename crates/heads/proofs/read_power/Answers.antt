-- `heads::read_power` meets its contract. Assumes nothing.
use mathlib.Core.Path.{sym, ap, ◌∙◌}
use Prim.Native.Nat.{ℕ}
use Rattle.util_defs.specs.Placed.{Placed, go_on}
use Rattle.describe_defs.specs.Describe.{power_in}
use Rattle.heads.specs.View.{number_read}
use Rattle.heads.proofs.Ways.{power_passes, power_some}
use Rattle.heads.proofs.read_power.Goals as goal

pub returns-then-byte-bits : goal.returns-then-byte-bits
returns-then-byte-bits c =
    power_passes c.args.bits c.args.at c.if-byte-gt-GREATEST_POWER_BYTE.false c.if-byte-bits.true
    ∙ sym (ap (λ (p : Placed ℕ). go_on p (power_in c.args.bits c.args.at)) (sym c.byte_at.ensures ∙ ap number_read c.in_ok-byte.was))

pub returns : goal.returns
returns c =
    power_some c.args.bits c.args.at c.if-byte-gt-GREATEST_POWER_BYTE.false c.if-byte-bits.false c.if-byte-eq0.false
    ∙ sym (ap (λ (p : Placed ℕ). go_on p (power_in c.args.bits c.args.at)) (sym c.byte_at.ensures ∙ ap number_read c.in_ok-byte.was))
