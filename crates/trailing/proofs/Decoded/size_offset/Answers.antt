-- `trailing::Decoded::size_offset` meets its contract. Assumes nothing.
use Rattle.std.proofs.Common.{ℕ, ◌+◌, sym, ap, ◌∙◌, arith}
use Rattle.util_defs.specs.Round.{down}
use Rattle.util_defs.specs.Refusal.{answered}
use Rattle.trailing.specs.View.{trailing_of}
use Rattle.trailing_defs.proofs.Sizes.{offset_fits}
use Rattle.trailing_defs.proofs.Calls.{size_offset_parts}
use Rattle.trailing.proofs.Decoded.size_offset.Goals as goal

pub overflow_add-result : goal.overflow_add-result
overflow_add-result c =
    let b = c.args.self.layout.size_base in
    omega (arith, c.round_down-aligned_base.ensures ∙ ap (down b) c.align.ensures, offset_fits 64 b c.args.self.is_word.power (omega arith) (omega arith) c.args.self.is_word.below)

pub returns : goal.returns
returns c =
    let b = c.args.self.layout.size_base in
    ap (λ (x : ℕ). answered (x + c.args.self.parts.phase)) (c.round_down-aligned_base.ensures ∙ ap (down b) c.align.ensures)
    ∙ sym (size_offset_parts 64 (trailing_of c.args.self.layout) c.args.self.is_word (omega arith))
