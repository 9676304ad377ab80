-- `trailing::Decoded::max_trailing_bytes` meets its contract. Assumes nothing.
use Rattle.std.proofs.Common.{◌≡◌, ◌+◌, ◌-◌, sym, ap, ◌∙◌, arith}
use Rattle.util_defs.specs.Round.{down}
use Rattle.util_defs.proofs.Powers.{positive}
use Rattle.util_defs.proofs.Rounding.{up_ge, down_le}
use Rattle.trailing.specs.View.{trailing_of}
use Rattle.trailing_defs.proofs.Calls.{max_trailing_refused, max_trailing_answered}
use Rattle.trailing.proofs.Decoded.max_trailing_bytes.Goals as goal
use Rattle.trailing.proofs.Decoded.max_trailing_bytes.Goals.{After-round_down-aligned_bytes}

-- what is left above the size at 0, rounded down
left : (c : After-round_down-aligned_bytes)
    → c.round_down-aligned_bytes.result ≡ down (c.args.available - (c.args.self.layout.size_base + c.rounded_phase-rounded_phase.result)) c.args.self.parts.align
left c =
    c.round_down-aligned_bytes.ensures ∙ ap (down (c.args.available - (c.args.self.layout.size_base + c.rounded_phase-rounded_phase.result))) c.align.ensures

pub returns-then-rounded_phase-size_base : goal.returns-then-rounded_phase-size_base
returns-then-rounded_phase-size_base c =
    sym (max_trailing_refused 64 (trailing_of c.args.self.layout) c.args.available c.args.self.is_word (omega arith) (omega (arith, c.rounded_phase-rounded_phase.ensures)))

pub returns-then-available-minimum_size : goal.returns-then-available-minimum_size
returns-then-available-minimum_size c =
    sym (max_trailing_refused 64 (trailing_of c.args.self.layout) c.args.available c.args.self.is_word (omega arith) (omega (arith, c.rounded_phase-rounded_phase.ensures)))

pub overflow_sub-result : goal.overflow_sub-result
overflow_sub-result c = omega (arith, c.rounded_phase-rounded_phase.ensures, up_ge c.args.self.parts.phase c.args.self.parts.align (positive c.args.self.is_word.power))

pub overflow_add-result : goal.overflow_add-result
overflow_add-result c =
    omega (arith, left c.before, down_le (c.args.available - (c.args.self.layout.size_base + c.rounded_phase-rounded_phase.result)) c.args.self.parts.align)

pub returns : goal.returns
returns c =
    sym (max_trailing_answered 64 (trailing_of c.args.self.layout) c.args.available c.rounded_phase-rounded_phase.result c.round_down-aligned_bytes.result c.args.self.is_word (omega arith) c.rounded_phase-rounded_phase.ensures (omega arith) (left c.before))
