-- `extend::extend` meets its contract. Assumes nothing.
use Prim.Native.Nat.{ℕ}
use Rattle.std.proofs.Common.{sym, ap, subst, arith, ◌∙◌}
use Rattle.util_defs.specs.Refusal.{Meets}
use Rattle.layout_defs.specs.Layout.{Layout}
use Rattle.layout_defs.specs.Extend.{IsTrailing, extend_causes, extend_for, Extended}
use Rattle.layout.specs.View.{info_of, layout_of, layout_says}
use Rattle.layout.specs.declared.SizeInfo.{SizeInfo}
use Rattle.layout.proofs.Told.{sized_as}
use Rattle.layout_defs.proofs.Steps.{extend_meets}
use Rattle.util_defs.proofs.Refusals.{means}
use Rattle.extend.proofs.extend.Goals as goal

pub after_trailing-requires : goal.after_trailing-requires
after_trailing-requires c = subst (λ (i : SizeInfo ℕ). IsTrailing (info_of i)) (sym c.in-SliceDst.is) tt

pub returns-in-Sized-clause-answer : goal.returns-in-Sized-clause-answer
returns-in-Sized-clause-answer c =
    c.extend_sized.ensures.answer
    ∙ ap (λ (l : Layout). extend_for 64 l (layout_of c.args.field) c.args.repr_packed) (c.with_size.ensures ∙ sized_as c.args.own c.in-Sized.is)

pub returns-in-Sized-clause-meaning : goal.returns-in-Sized-clause-meaning
returns-in-Sized-clause-meaning c =
    let m = layout_of c.args.field in
    let p = c.args.repr_packed in
    subst (λ (l : Layout). Meets (extend_causes 64 l m p) (Extended l m p) (layout_says c.extend_sized.result)) (c.with_size.ensures ∙ sized_as c.args.own c.in-Sized.is) c.extend_sized.ensures.meaning

pub returns-in-SliceDst-clause-answer : goal.returns-in-SliceDst-clause-answer
returns-in-SliceDst-clause-answer c = c.after_trailing.ensures

pub returns-in-SliceDst-clause-meaning : goal.returns-in-SliceDst-clause-meaning
returns-in-SliceDst-clause-meaning c = means (extend_meets 64 (layout_of c.args.own) (layout_of c.args.field) c.args.repr_packed (omega arith) (omega arith) c.ranges.repr_packed.fits) (returns-in-SliceDst-clause-answer c)
