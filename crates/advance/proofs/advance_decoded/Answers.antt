-- `advance::advance_decoded` meets its contract. Assumes nothing.
use mathlib.Core.Path.{◌≡◌, sym, ap, ap₂, ◌∙◌}
use Prim.Native.Nat.{ℕ, ◌+◌, ◌%◌}
use native.Mathlib.Nat.{mod-lt}
use native.Mathlib.Omega.{arith}
use Rattle.util_defs.specs.Round.{down}
use Rattle.util_defs.specs.Refusal.{answered}
use Rattle.util_defs.proofs.Powers.{positive, double}
use Rattle.util_defs.proofs.Rounding.{down_le}
use Rattle.trailing.specs.View.{trailing_of}
use Rattle.trailing_defs.proofs.Sizes.{offset_fits, advance_fits}
use Rattle.trailing_defs.proofs.Calls.{advance_refused, advance_answered}
use Rattle.advance.proofs.advance_decoded.Goals as goal

-- the base rounded down, by the alignment of the word
based : {a A r : ℕ} (b : ℕ) → a ≡ A → r ≡ down b a → r ≡ down b A
based b e f = f ∙ ap (down b) e

pub overflow_sub-phase_capacity : goal.overflow_sub-phase_capacity
overflow_sub-phase_capacity c = let b = c.args.decoded.layout.size_base in omega (arith, c.round_down-phase_capacity.ensures, down_le b c.align-align.result.value)

pub overflow_sub-max_advance : goal.overflow_sub-max_advance
overflow_sub-max_advance c =
    let d = c.args.decoded in
    omega (arith, based d.layout.size_base c.align-align.ensures c.round_down-phase_capacity.ensures, offset_fits 64 d.layout.size_base d.is_word.power (omega arith) (omega arith) d.is_word.below)

pub returns-then-bytes-max_advance : goal.returns-then-bytes-max_advance
returns-then-bytes-max_advance c =
    let d = c.args.decoded in
    sym (advance_refused 64 (trailing_of d.layout) c.args.bytes c.args.elem d.is_word (omega arith) (omega (arith, based d.layout.size_base c.align-align.ensures c.round_down-phase_capacity.ensures)))

pub overflow_add-advanced_phase : goal.overflow_add-advanced_phase
overflow_add-advanced_phase c = omega (arith, c.round_down-phase_capacity.ensures)

pub overflow_add-result : goal.overflow_add-result
overflow_add-result c =
    let d = c.args.decoded in
    let e = based d.layout.size_base c.align-align.ensures c.round_down-phase_capacity.ensures in
    let m = based (d.parts.phase + c.args.bytes) c.align-align.ensures c.round_down-whole_bytes.ensures in
    let o = offset_fits 64 d.layout.size_base d.is_word.power (omega arith) (omega arith) d.is_word.below in
    omega (arith, m, advance_fits 64 d.layout.size_base d.parts.phase c.args.bytes d.is_word.power (omega arith) (omega (arith, e, o)))

pub overflow_add-result-2 : goal.overflow_add-result-2
overflow_add-result-2 c =
    let d = c.args.decoded in
    let m = c.remainder-normalized_phase.ensures ∙ ap (λ (x : ℕ). (d.parts.phase + c.args.bytes) % x) c.align-align.ensures in
    omega (arith, double 64 d.is_word.power (omega arith), c.align-align.ensures, m, mod-lt (d.parts.phase + c.args.bytes) (positive d.is_word.power))

pub returns : goal.returns
returns c =
    let d = c.args.decoded in
    let t = trailing_of d.layout in
    let x = d.parts.phase + c.args.bytes in
    let e = based d.layout.size_base c.align-align.ensures c.round_down-phase_capacity.ensures in
    let o = offset_fits 64 d.layout.size_base d.is_word.power (omega arith) (omega arith) d.is_word.below in
    let m = c.remainder-normalized_phase.ensures ∙ ap (λ (y : ℕ). x % y) c.align-align.ensures in
    ap₂ (λ (b w : ℕ). answered (record { offset = t.offset; elem = c.args.elem; base = t.base + b; word = w })) (based x c.align-align.ensures c.round_down-whole_bytes.ensures) (ap₂ (λ (a y : ℕ). a + y) c.align-align.ensures m)
    ∙ sym (advance_answered 64 t c.args.bytes c.args.elem d.is_word (omega arith) (omega (arith, e, o)))
