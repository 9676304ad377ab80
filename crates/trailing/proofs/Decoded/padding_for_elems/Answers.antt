-- `trailing::Decoded::padding_for_elems` meets its contract. Assumes nothing.
use Rattle.std.proofs.Common.{◌≡◌, ℕ, ◌+◌, ◌*◌, ◌%◌, ◌^◌, ◌-◌, ◌<◌, refl, pow_pos, sym, ap, ◌∙◌, mod-lt, arith}
use Rattle.util_defs.specs.Round.{padding}
use Rattle.util_defs.proofs.Powers.{positive, double}
use Rattle.util_defs.proofs.Rounding.{padding_mod}
use Rattle.rounding.proofs.Words.{parts_of_lem, at_parts, not_zero}
use Rattle.trailing_defs.specs.Size.{A, p}
use Rattle.trailing.specs.View.{trailing_of}
use Rattle.trailing_defs.proofs.Sizes.{padding_by_sums}
use Rattle.trailing_defs.proofs.Calls.{padding_answered}
use Rattle.trailing.proofs.Decoded.padding_for_elems.Goals as goal

pub overflow_add-rounding_input : goal.overflow_add-rounding_input
overflow_add-rounding_input c =
    omega (arith, double 64 c.args.self.is_word.power (omega arith), c.args.self.is_word.below, c.trailing_remainder.ensures, mod-lt (c.args.elems * c.args.self.layout.elem_size) (positive c.args.self.is_word.power))

pub returns : goal.returns
returns c =
    let t = trailing_of c.args.self.layout in
    let n = c.args.elems in
    let a = c.args.self.parts.align in
    let h : t.word < 2 ^ 64 = omega arith in
    let q = c.padding_needed-rounding_padding.result in
    let f = ap (λ (x : ℕ). padding (c.args.self.parts.phase + x) a) c.trailing_remainder.ensures in
    let e : q ≡ padding (p 64 t + n * t.elem) (A 64 t) =
    c.padding_needed-rounding_padding.ensures ∙ ap (padding (c.args.self.parts.phase + c.trailing_remainder.result)) c.align.ensures ∙ f
    ∙ padding_mod c.args.self.parts.phase (n * t.elem) a (positive c.args.self.is_word.power)
    ∙ sym (at_parts 64 (λ a q. padding (q + n * t.elem) a) c.args.self.is_word h) in
    let b : (t.base + c.args.self.parts.phase) % 2 ^ 64 ≡ (t.base + p 64 t) % 2 ^ 64 = sym (at_parts 64 (λ a q. (t.base + q) % 2 ^ 64) c.args.self.is_word h) in
    let f64 = (t.base + c.args.self.parts.phase) % 2 ^ 64 in
    let s = (f64 + (2 ^ 64 - t.offset)) % 2 ^ 64 in
    let l : f64 < 2 ^ 64 = mod-lt (t.base + c.args.self.parts.phase) (pow_pos 64) in
    let g : (s + t.offset) % 2 ^ 64 ≡ f64 = omega arith in
    sym (padding_answered 64 t n ((s + q) % 2 ^ 64) (not_zero c.args.self.is_word)
    (padding_by_sums 64 t n f64 s q ((s + q) % 2 ^ 64)
    (positive (parts_of_lem 64 t.word (not_zero c.args.self.is_word) h).power) (omega arith) e b g refl))
