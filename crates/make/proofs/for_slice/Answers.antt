-- `make::for_slice` meets its contract. Assumes nothing.
use mathlib.Core.Path.{sym, ap, ◌∙◌}
use Prim.Native.Nat.{ℕ}
use Rattle.util_defs.specs.Refusal.{answered}
use Rattle.util_defs.specs.Helpers.{align_causes}
use Rattle.util_defs.proofs.Refusals.{means}
use Rattle.util_defs.proofs.Tables.{answer_is}
use Rattle.util.proofs.Told.{handed_on}
use Rattle.make.specs.Make.{slice_layout, slice_for}
use Rattle.make.proofs.Made.{slice_meets, multiple, no_multiple, no_align}
use Rattle.make.proofs.for_slice.Goals as goal

pub returns-in_err-align-clause-answer : goal.returns-in_err-align-clause-answer
unfolding slice_for
returns-in_err-align-clause-answer c =
    let x = c.args in
    handed_on _ c.from_residual.result _ c.from_residual.ensures.1 (sym (no_align 64 x.size x.align (slice_layout x.size x.align) (sym c.in_err-align.ensures.answer)))

pub returns-in_err-align-clause-meaning : goal.returns-in_err-align-clause-meaning
returns-in_err-align-clause-meaning c = means (slice_meets 64 c.args.size c.args.align c.ranges.align.fits) (returns-in_err-align-clause-answer c)

pub returns-then-remainder-eq0-clause-answer : goal.returns-then-remainder-eq0-clause-answer
unfolding slice_for
returns-then-remainder-eq0-clause-answer c =
    let x = c.args in
    let e = sym c.in_ok-align.ensures.answer in
    ap (λ (a : ℕ). answered (slice_layout x.size a)) (answer_is (align_causes 64 x.align) x.align e)
    ∙ sym (multiple 64 x.size x.align (slice_layout x.size x.align) e (sym c.remainder-remainder.ensures ∙ c.if-remainder-eq0.true))

pub returns-then-remainder-eq0-clause-meaning : goal.returns-then-remainder-eq0-clause-meaning
returns-then-remainder-eq0-clause-meaning c = means (slice_meets 64 c.args.size c.args.align c.ranges.align.fits) (returns-then-remainder-eq0-clause-answer c)

pub returns-else-remainder-eq0-clause-answer : goal.returns-else-remainder-eq0-clause-answer
unfolding slice_for
returns-else-remainder-eq0-clause-answer c =
    let x = c.args in
    sym (no_multiple 64 x.size x.align (slice_layout x.size x.align) (sym c.in_ok-align.ensures.answer) (λ z. c.if-remainder-eq0.false (c.remainder-remainder.ensures ∙ z)))

pub returns-else-remainder-eq0-clause-meaning : goal.returns-else-remainder-eq0-clause-meaning
returns-else-remainder-eq0-clause-meaning c = means (slice_meets 64 c.args.size c.args.align c.ranges.align.fits) (returns-else-remainder-eq0-clause-answer c)
