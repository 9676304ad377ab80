-- `trailing::Decoded::size_at` meets its contract. Assumes nothing.
use Rattle.std.proofs.Common.{ℕ, ◌+◌, ◌%◌, ◌^◌, refl, sym, ap, subst, pow_pos}
use Rattle.trailing_defs.specs.Sized.{sized}
use Rattle.util.proofs.Told.{number_told, number_kept}
use Rattle.rounding.proofs.Words.{not_zero}
use Rattle.trailing_defs.specs.Calls.{padding_at, PaddingAt}
use Rattle.trailing.specs.View.{trailing_of}
use Rattle.trailing_defs.proofs.Sizes.{padding_congruent, size_by_end}
use Rattle.trailing_defs.proofs.Calls.{padding_answered}
use Rattle.trailing.proofs.Decoded.size_at.Goals as goal

pub returns : goal.returns
returns c =
    let t = trailing_of c.args.self.layout in
    let n = c.args.elems in
    let q = c.in_ok-padding.padding in
    let end = (t.offset + c.args.bytes) % 2 ^ 64 in
    let a = number_told c.padding_for_elems.result c.padding_for_elems.ensures (padding_answered 64 t n (padding_at 64 t n) (not_zero c.args.self.is_word) (padding_congruent 64 t n (pow_pos 64))) c.in_ok-padding.was in
    let r = subst (PaddingAt 64 t n) (sym a) (padding_congruent 64 t n (pow_pos 64)) in
    ap sized (size_by_end 64 t n q end ((end + q) % 2 ^ 64) (pow_pos 64) c.requires.1 r
    (ap (λ (x : ℕ). (t.offset + x) % 2 ^ 64) c.requires.0) refl)

pub returns-in_err-padding : goal.returns-in_err-padding
returns-in_err-padding c =
    let t = trailing_of c.args.self.layout in
    let n = c.args.elems in
    absurd (number_kept c.padding_for_elems.result c.padding_for_elems.ensures (padding_answered 64 t n (padding_at 64 t n) (not_zero c.args.self.is_word) (padding_congruent 64 t n (pow_pos 64))) c.in_err-padding.was)
