-- `heads::aligned_head` meets its contract. Assumes nothing.
use Rattle.util.proofs.Told.{handed_on_at}
use mathlib.Core.Path.{sym, ap, ◌∙◌}
use Prim.Native.Nat.{ℕ, ◌+◌}
use Rattle.util_defs.specs.Placed.{Placed, go_on}
use Rattle.heads.specs.View.{counted, number_read}
use Rattle.describe_defs.specs.Heads.{packed_head}
use Rattle.describe_defs.proofs.Steps.{power_found}
use Rattle.heads.proofs.aligned_head.Goals as goal

pub packed_head-requires : goal.packed_head-requires
packed_head-requires c = (power_found c.args.bits c.args.s.now (c.args.at + 2) (sym c.read_power.ensures ∙ ap number_read c.in_ok-packed.was)).at.within

pub returns : goal.returns
returns c = c.packed_head.ensures ∙ sym (ap (λ (p : Placed ℕ). go_on p (packed_head c.args.s.now c.args.at (counted c.args.bytes) c.args.align)) (sym c.read_power.ensures ∙ ap number_read c.in_ok-packed.was))

pub returns-in_err-packed : goal.returns-in_err-packed
returns-in_err-packed c = handed_on_at _ c.from_residual.result _ c.from_residual.ensures.1 (sym (ap (λ (p : Placed ℕ). go_on p (packed_head c.args.s.now c.args.at (counted c.args.bytes) c.args.align)) (sym c.read_power.ensures ∙ ap number_read c.in_err-packed.was)))
