-- `heads::struct_head` meets its contract. Assumes nothing.
use Rattle.util.proofs.Told.{handed_on_at}
use mathlib.Core.Path.{sym, ap, ◌∙◌}
use Prim.Native.Nat.{ℕ, ◌+◌}
use Rattle.util_defs.specs.Placed.{Placed, go_on}
use Rattle.heads.specs.View.{counted, number_read}
use Rattle.describe_defs.specs.Heads.{aligned_head}
use Rattle.describe_defs.proofs.Steps.{power_found}
use Rattle.heads.proofs.struct_head.Goals as goal

pub aligned_head-requires : goal.aligned_head-requires
aligned_head-requires c = (power_found c.args.bits c.args.s.now (c.args.at + 1) (sym c.read_power.ensures ∙ ap number_read c.in_ok-align.was)).at.within

pub returns : goal.returns
returns c = c.aligned_head.ensures ∙ sym (ap (λ (p : Placed ℕ). go_on p (aligned_head c.args.bits c.args.s.now c.args.at (counted c.args.bytes))) (sym c.read_power.ensures ∙ ap number_read c.in_ok-align.was))

pub returns-in_err-align : goal.returns-in_err-align
returns-in_err-align c = handed_on_at _ c.from_residual.result _ c.from_residual.ensures.1 (sym (ap (λ (p : Placed ℕ). go_on p (aligned_head c.args.bits c.args.s.now c.args.at (counted c.args.bytes))) (sym c.read_power.ensures ∙ ap number_read c.in_err-align.was)))
