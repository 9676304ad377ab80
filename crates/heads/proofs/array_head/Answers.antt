-- `heads::array_head` meets its contract. Assumes nothing.
use Rattle.util.proofs.Told.{handed_on_at}
use mathlib.Core.Path.{sym, ap, ◌∙◌}
use Prim.Native.Nat.{ℕ}
use Rattle.util_defs.specs.Placed.{Placed, reached, go_on}
use Rattle.heads.specs.View.{number_read}
use Rattle.describe_defs.specs.Heads.{array_head}
use Rattle.heads.proofs.array_head.Goals as goal

pub returns : goal.returns
returns c = sym (ap (λ (p : Placed ℕ). go_on p (λ n. reached (array_head n))) (sym c.read_count.ensures ∙ ap number_read c.in_ok-count.was))

pub returns-in_err-count : goal.returns-in_err-count
returns-in_err-count c = handed_on_at _ c.from_residual.result _ c.from_residual.ensures.1 (sym (ap (λ (p : Placed ℕ). go_on p (λ n. reached (array_head n))) (sym c.read_count.ensures ∙ ap number_read c.in_err-count.was)))
