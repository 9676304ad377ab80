-- `extend::extend_sized` meets its contract. Assumes nothing.
use Rattle.std.proofs.Common.{sym, ◌∙◌, arith}
use Rattle.layout.specs.View.{layout_of, sized_of}
use Rattle.layout_defs.proofs.Layouts.{fixed_accepted, fixed_refused}
use Rattle.layout_defs.proofs.Steps.{extend_meets, extend_own}
use Rattle.layout_defs.proofs.Onto.{onto_extend}
use Rattle.util_defs.proofs.Refusals.{means}
use Rattle.extend.proofs.extend_sized.Goals as goal

pub returns-then-is_power_of_two-clause-answer : goal.returns-then-is_power_of_two-clause-answer
returns-then-is_power_of_two-clause-answer c = let own = c.args.own in
    let l = sized_of own in
    let m = layout_of c.args.field in c.extend_onto.ensures ∙ onto_extend 64 l m c.args.repr_packed (fixed_accepted 64 own.align own.size own.statically_shallow_unpadded own.align_modifier (sym c.is_power_of_two.ensures.answer ∙ c.if-is_power_of_two.true))

pub returns-then-is_power_of_two-clause-meaning : goal.returns-then-is_power_of_two-clause-meaning
returns-then-is_power_of_two-clause-meaning c = let own = c.args.own in
    let l = sized_of own in
    let m = layout_of c.args.field in means (extend_meets 64 l m c.args.repr_packed (omega arith) (omega arith) c.ranges.repr_packed.fits) (returns-then-is_power_of_two-clause-answer c)

pub returns-else-is_power_of_two-clause-answer : goal.returns-else-is_power_of_two-clause-answer
returns-else-is_power_of_two-clause-answer c = let own = c.args.own in
    let l = sized_of own in
    let m = layout_of c.args.field in extend_own 64 l m c.args.repr_packed (fixed_refused 64 own.align own.size own.statically_shallow_unpadded own.align_modifier (sym c.is_power_of_two.ensures.answer ∙ c.if-is_power_of_two.false))

pub returns-else-is_power_of_two-clause-meaning : goal.returns-else-is_power_of_two-clause-meaning
returns-else-is_power_of_two-clause-meaning c = let own = c.args.own in
    let l = sized_of own in
    let m = layout_of c.args.field in means (extend_meets 64 l m c.args.repr_packed (omega arith) (omega arith) c.ranges.repr_packed.fits) (returns-else-is_power_of_two-clause-answer c)
