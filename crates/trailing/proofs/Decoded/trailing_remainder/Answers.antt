-- `trailing::Decoded::trailing_remainder` meets its contract. Assumes nothing.
use Rattle.std.proofs.Common.{ℕ, ◌*◌, ◌%◌, ◌^◌, ap, ◌∙◌, arith}
use Rattle.trailing_defs.proofs.Sizes.{remainder}
use Rattle.trailing.proofs.Decoded.trailing_remainder.Goals as goal

pub returns : goal.returns
returns c =
    let n = c.args.elems in
    let e = c.args.self.layout.elem_size in
    c.remainder.ensures
    ∙ remainder 64 n e c.wrapping_mul.result c.align-align.result.power (omega (arith, c.align-align.ensures)) (c.wrapping_mul.ensures ∙ ap (λ (x : ℕ). n * x % 2 ^ 64) c.remainder-elem_remainder.ensures)
    ∙ ap (λ (a : ℕ). n * e % a) c.align-align.ensures
