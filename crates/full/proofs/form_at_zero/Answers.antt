-- `full::form_at_zero` meets its contract. Assumes nothing.
use mathlib.Core.Path.{sym, ap, ◌∙◌}
use native.Mathlib.Omega.{arith}
use Prim.Native.Nat.{ℕ}
use Rattle.util_defs.specs.Refusal.{answered}
use Rattle.trailing_defs.specs.Size.{size_at}
use Rattle.rounding.proofs.Words.{not_zero}
use Rattle.trailing.specs.View.{trailing_of}
use Rattle.trailing.proofs.Told.{size_told, size_not}
use Rattle.full_defs.specs.Form.{form}
use Rattle.full_defs.proofs.Told.{form_given, form_past}
use Rattle.full.proofs.form_at_zero.Goals as goal

pub returns-in_default : goal.returns-in_default
returns-in_default c =
    let t = trailing_of c.args.decoded.layout in
    sym (form_past 64 t (form (size_at 64 t 0) c.args.align t.elem) (not_zero c.args.decoded.is_word) c.requires
    (size_not 64 t 0 c.size_for_elems.result (not_zero c.args.decoded.is_word) (omega arith) c.size_for_elems.ensures.meaning c.in_default.is))

pub returns : goal.returns
returns c =
    let t = trailing_of c.args.decoded.layout in
    let z = size_told 64 t 0 c.size_for_elems.result c.size_for_elems.ensures.meaning c.in-Ok.is in
    ap (λ (b : ℕ). answered (form b c.args.align t.elem)) z.1
    ∙ sym (form_given 64 t (form (size_at 64 t 0) c.args.align t.elem) (not_zero c.args.decoded.is_word) c.requires z.0)
