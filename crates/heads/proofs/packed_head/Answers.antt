-- `heads::packed_head` meets its contract. Assumes nothing.
use Rattle.util.proofs.Told.{handed_on_at}
use mathlib.Core.Path.{◌≡◌, sym, ap, ◌∙◌}
use Prim.Native.Nat.{ℕ, ◌+◌}
use native.Mathlib.Omega.{arith}
use Rattle.util_defs.specs.Placed.{Placed, reached, go_on}
use Rattle.describe_defs.specs.Describe.{count_bytes}
use Rattle.describe_defs.specs.Heads.{struct_head}
use Rattle.describe_defs.proofs.Steps.{count_found}
use Rattle.heads.specs.View.{counted, number_read}
use Rattle.heads.proofs.packed_head.Goals as goal

pub overflow_add-result : goal.overflow_add-result
overflow_add-result c = omega (arith, c.struct_bytes.ensures, (count_found (count_bytes (counted c.args.bytes)) c.args.s.now (c.args.at + 3) (sym c.read_members.ensures ∙ ap number_read c.in_ok-count.was)).within)

pub returns : goal.returns
returns c =
    let e : c.args.at + c.struct_bytes.result ≡ c.args.at + 3 + count_bytes (counted c.args.bytes) = omega (arith, c.struct_bytes.ensures) in
    ap (λ (i : ℕ). reached (struct_head c.args.align c.args.packed c.in_ok-count.count i)) e
    ∙ sym (ap (λ (p : Placed ℕ). go_on p (λ n. reached (struct_head c.args.align c.args.packed n (c.args.at + 3 + count_bytes (counted c.args.bytes))))) (sym c.read_members.ensures ∙ ap number_read c.in_ok-count.was))

pub returns-in_err-count : goal.returns-in_err-count
returns-in_err-count c = handed_on_at _ c.from_residual.result _ c.from_residual.ensures.1 (sym (ap (λ (p : Placed ℕ). go_on p (λ n. reached (struct_head c.args.align c.args.packed n (c.args.at + 3 + count_bytes (counted c.args.bytes))))) (sym c.read_members.ensures ∙ ap number_read c.in_err-count.was)))
