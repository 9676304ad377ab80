-- `extend::packed_align` meets its contract. Assumes nothing.
use Rattle.std.proofs.Common.{◌≡◌, sym, ap, ◌∙◌, subst, arith, eq-eqb, ne_eqb}
use Rattle.std.specs.Prelude.{min}
use native.Mathlib.Nat.{min-eq_left, min-eq_right}
use Rattle.util_defs.specs.Power.{PowerOfTwo}
use Rattle.util_defs.specs.Refusal.{answered, unless}
use Rattle.util_defs.proofs.Refusals.{told_true}
use Rattle.util_defs.proofs.Powers.{tells_power}
use Rattle.util.proofs.Told.{made_align, no_align}
use Rattle.extend.proofs.packed_align.Goals as goal

pub returns-then-repr_packed-eq0 : goal.returns-then-repr_packed-eq0
unfolding unless
returns-then-repr_packed-eq0 c = simp (eq-eqb c.args.repr_packed 0 c.if-repr_packed-eq0.true)

pub returns-in_default : goal.returns-in_default
unfolding unless
returns-in_default c =
    let q = c.args.repr_packed in
    simp (ne_eqb q 0 c.if-repr_packed-eq0.false, no_align 64 q c.new.result c.new.ensures.answer c.in_default.is)

pub returns-then-packing-align : goal.returns-then-packing-align
unfolding unless
returns-then-packing-align c =
    let a = c.args.align.value in
    let q = c.args.repr_packed in
    let x = made_align 64 q c.new.result c.new.ensures.answer c.in-Ok.is in
    let t = told_true (tells_power 64 q c.ranges.repr_packed.fits) (subst PowerOfTwo x c.in-Ok.packing.power) in
    let m : min a q ≡ q = min-eq_right (omega (arith, x, c.if-packing-align.true)) in
    simp (ne_eqb q 0 c.if-repr_packed-eq0.false, t) (ap answered (x ∙ sym m))

pub returns-else-packing-align : goal.returns-else-packing-align
unfolding unless
returns-else-packing-align c =
    let a = c.args.align.value in
    let q = c.args.repr_packed in
    let x = made_align 64 q c.new.result c.new.ensures.answer c.in-Ok.is in
    let t = told_true (tells_power 64 q c.ranges.repr_packed.fits) (subst PowerOfTwo x c.in-Ok.packing.power) in
    let m : min a q ≡ a = min-eq_left (omega (arith, x, c.if-packing-align.false)) in
    simp (ne_eqb q 0 c.if-repr_packed-eq0.false, t) (ap answered (sym m))
