-- `make::for_marked_type` meets its contract. Assumes nothing.
use mathlib.Core.Path.{sym, ap, ◌∙◌}
use Prim.Native.Nat.{ℕ}
use Rattle.util_defs.specs.Refusal.{answered}
use Rattle.util_defs.specs.Helpers.{align_causes}
use Rattle.util_defs.proofs.Tables.{answer_is}
use Rattle.util.proofs.Told.{handed_on}
use Rattle.make.specs.Make.{type_layout, type_for}
use Rattle.make.proofs.Made.{multiple, no_multiple, no_align}
use Rattle.make.proofs.for_marked_type.Goals as goal

pub returns-in_err-align : goal.returns-in_err-align
unfolding type_for
returns-in_err-align c =
    let x = c.args in
    handed_on _ c.from_residual.result _ c.from_residual.ensures.1 (sym (no_align 64 x.size x.align (type_layout x.unpadded x.size x.align) (sym c.in_err-align.ensures.answer)))

pub returns-then-remainder-eq0 : goal.returns-then-remainder-eq0
unfolding type_for
returns-then-remainder-eq0 c =
    let x = c.args in
    let e = sym c.in_ok-align.ensures.answer in
    ap (λ (a : ℕ). answered (type_layout x.unpadded x.size a)) (answer_is (align_causes 64 x.align) x.align e)
    ∙ sym (multiple 64 x.size x.align (type_layout x.unpadded x.size x.align) e (sym c.remainder.ensures ∙ c.if-remainder-eq0.true))

pub returns-else-remainder-eq0 : goal.returns-else-remainder-eq0
unfolding type_for
returns-else-remainder-eq0 c =
    let x = c.args in
    sym (no_multiple 64 x.size x.align (type_layout x.unpadded x.size x.align) (sym c.in_ok-align.ensures.answer) (λ z. c.if-remainder-eq0.false (c.remainder.ensures ∙ z)))
