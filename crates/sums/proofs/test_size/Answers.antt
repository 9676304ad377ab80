-- `sums::test_size` meets its contract. Assumes nothing.
use mathlib.Core.Path.{refl, sym, ◌∙◌}
use Prim.Native.Nat.{◌*◌}
use native.Mathlib.Omega.{arith}
use Rattle.std.proofs.Common.{rules, ap, subst}
use Rattle.std.specs.Prelude.{Err}
use Rattle.std.proofs.lemmas.Result.{err_from_is_err_and}
use Rattle.util.specs.declared.refusal.Refusal.{Refusal}
use Rattle.util_defs.proofs.Mapped.{mapped_ok, mapped_err}
use Rattle.util_defs.specs.Width.{M}
use Rattle.rounding.proofs.Words.{not_zero}
use Rattle.trailing.specs.View.{trailing_of}
use Rattle.trailing_defs.proofs.Told.{room_told, room_refused}
use Rattle.share_defs.proofs.Told.{sums_none}
use Rattle.sums.specs.Bits.{bits_to}
use Rattle.sums.specs.View.{TestMeans}
use Rattle.sums.proofs.Widths.{room_at}
use Rattle.sums.proofs.test_size.Goals as goal

pub invariant_of-result : goal.invariant_of-result
invariant_of-result c =
    let t = trailing_of c.args.decoded.layout in
    let h = c.requires.0 in
    let w = bits_to c.args.max in
    record {
      is_width = h.0;
      holds = h.1;
      room = room_told w t (M w) c.max_trailing_bytes.result h.1 (c.max_trailing_bytes.ensures.answer ∙ room_at c.args.max t h.0 h.1) (mapped_ok c.max_trailing_bytes.result _ _ c.map_err.ensures.cases c.in_ok-most.was);
    }

pub returns : goal.returns
returns c = (refl, (refl, c.requires.1))

pub returns-in_err-most : goal.returns-in_err-most
returns-in_err-most c =
    let m = mapped_err c.max_trailing_bytes.result _ _ (λ e. Refusal.NoSizeAtZero) (λ e q. search rules) c.map_err.ensures.cases c.in_err-most.was in
    let p = err_from_is_err_and c.from_residual.result c.from_residual.ensures.1 in
    subst (TestMeans (trailing_of c.args.decoded.layout) c.args.max c.args.count) (sym (p.1 ∙ ap Err (p.2 ∙ m.2))) (λ ns e.
    let t = trailing_of c.args.decoded.layout in
    let h = c.requires.0 in
    let w = bits_to c.args.max in
    let z = not_zero c.args.decoded.is_word in
    let none = room_refused w t (M w) c.max_trailing_bytes.result z h.1 (c.max_trailing_bytes.ensures.answer ∙ room_at c.args.max t h.0 h.1) m.1 in
    sym (sums_none w t ns z (omega (arith, e, c.requires.1)) (omega (arith, none (0 * t.elem)))))
