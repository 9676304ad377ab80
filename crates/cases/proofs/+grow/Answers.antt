-- `cases::grow` meets its contract, by recursion over the slots left. Assumes nothing.
use mathlib.Core.Path.{◌≡◌, refl, ◌∙◌}
use Prim.Native.Nat.{◌+◌, ◌-◌, ◌*◌, ◌^◌}
use lib.ListN.{length}
use native.Mathlib.Nat.{pos_of_ne-zero}
use native.Mathlib.Omega.{arith}
use Rattle.cases.specs.Grow.{grown_bytes}
use Rattle.cases.proofs.Grown.{quarter, taken, next, grown}
use Prim.Native.Nat.{ℕ, ◌<◌}
use borrow.Fn.Kinds.{In}
use borrow.Fn.PlainCycle.{Measures, is, falls, and}
use Rattle.cases.proofs.grow.Reads as grow
use Rattle.cases.proofs.grow.Kinds as grow-kinds
use Rattle.cases.proofs.+grow.Lts-grow as grow-lts
use Rattle.cases.proofs.put_list.Reads as put-list-reads
use Rattle.cases.proofs.unit_of.Reads as unit-of-reads
use Rattle.cases.proofs.+grow.Goals as goal

abbrev μ-grow : Measures 1 grow-kinds.ps ℕ
μ-grow κs a = a.1.1.0

abbrev grow-at : ℕ → In 1 grow-kinds.ps
grow-at t = and 1 grow-kinds.ps (is 1 grow-kinds.ps μ-grow t) grow.Pre

abbrev grow-below : ℕ → In 1 grow-kinds.ps
grow-below t = and 1 grow-kinds.ps (falls 1 grow-kinds.ps ◌<◌ μ-grow t) grow.Pre

pub put_list-requires : goal.put_list-requires
put_list-requires t c =
    let e : 4 ^ c.args.left ≡ 1 = rw c.if-left-eq0.true refl in
    (omega (arith, c.requires.0), c.requires.3)

pub overflow_add-result : goal.overflow_add-result
overflow_add-result t c =
    let e : 4 ^ c.args.left ≡ 1 = rw c.if-left-eq0.true refl in
    omega (arith, c.requires.0)

pub shape_of-out-then-left-eq0 : goal.shape_of-out-then-left-eq0
shape_of-out-then-left-eq0 t c = c.put_list.auto.out

pub returns-then-left-eq0 : goal.returns-then-left-eq0
unfolding grown_bytes
returns-then-left-eq0 t c = rw c.if-left-eq0.true (refl, c.put_list.ensures)

pub unit_of-unit-requires : goal.unit_of-unit-requires
unit_of-unit-requires t c =
    let p = pos_of_ne-zero c.if-left-eq0.false in
    omega (arith, c.requires.1)

pub overflow_mul-first : goal.overflow_mul-first
overflow_mul-first t c =
    let f = c.if-left-eq0.false in
    let u = c.unit_of-unit.result in
    let e = c.unit_of-unit.ensures in
    let t255 = taken c.args.at c.args.left c.args.slot c.args.word (length c.args.out.now) u f e c.requires in
    omega (arith, t255, c.requires.3)

pub overflow_sub-first : goal.overflow_sub-first
overflow_sub-first t c =
    let f = c.if-left-eq0.false in
    let u = c.unit_of-unit.result in
    let e = c.unit_of-unit.ensures in
    let t255 = taken c.args.at c.args.left c.args.slot c.args.word (length c.args.out.now) u f e c.requires in
    t255

pub overflow_sub-left : goal.overflow_sub-left
overflow_sub-left t c = pos_of_ne-zero c.if-left-eq0.false

pub overflow_add-slot : goal.overflow_add-slot
overflow_add-slot t c = let h = c.requires.1 in omega (arith, h)

pub grow-second_at-requires : goal.grow-second_at-requires
grow-second_at-requires t c =
    let f = c.if-left-eq0.false in
    let u = c.unit_of-unit.result in
    let e = c.unit_of-unit.ensures in
    let t255 = taken c.args.at c.args.left c.args.slot c.args.word (length c.args.out.now) u f e c.requires in (
      let p = pos_of_ne-zero f in omega (arith, c.requires.0),
      next c.args.at c.args.left c.args.slot c.args.word (length c.args.out.now) u f e c.requires 0 c.args.at (c.args.word - 255 * u) _ (omega arith) (omega (arith, t255)) (omega (arith)) (refl),
    )

pub overflow_sub-left-2 : goal.overflow_sub-left-2
overflow_sub-left-2 t c = pos_of_ne-zero c.if-left-eq0.false

pub overflow_add-slot-2 : goal.overflow_add-slot-2
overflow_add-slot-2 t c = let h = c.requires.1 in omega (arith, h)

pub overflow_add-first : goal.overflow_add-first
overflow_add-first t c =
    let f = c.if-left-eq0.false in
    let u = c.unit_of-unit.result in
    let e = c.unit_of-unit.ensures in
    let t255 = taken c.args.at c.args.left c.args.slot c.args.word (length c.args.out.now) u f e c.requires in
    omega (arith, t255, c.requires.3)

pub grow-third_at-requires : goal.grow-third_at-requires
grow-third_at-requires t c =
    let f = c.if-left-eq0.false in
    let u = c.unit_of-unit.result in
    let e = c.unit_of-unit.ensures in
    let t255 = taken c.args.at c.args.left c.args.slot c.args.word (length c.args.out.now) u f e c.requires in (
      let p = pos_of_ne-zero f in omega (arith, c.requires.0),
      next c.args.at c.args.left c.args.slot c.args.word (length c.args.out.now) u f e c.requires 1 c.grow-second_at.result (c.args.word - 255 * u + u) _ (omega arith) (omega (arith, t255)) (omega (arith, c.grow-second_at.ensures.0)) c.grow-second_at.auto.out,
    )

pub overflow_sub-left-3 : goal.overflow_sub-left-3
overflow_sub-left-3 t c = pos_of_ne-zero c.if-left-eq0.false

pub overflow_add-slot-3 : goal.overflow_add-slot-3
overflow_add-slot-3 t c = let h = c.requires.1 in omega (arith, h)

pub overflow_mul-unit : goal.overflow_mul-unit
overflow_mul-unit t c =
    let f = c.if-left-eq0.false in
    let u = c.unit_of-unit.result in
    let e = c.unit_of-unit.ensures in
    let t255 = taken c.args.at c.args.left c.args.slot c.args.word (length c.args.out.now) u f e c.requires in
    omega (arith, t255, c.requires.3)

pub overflow_add-first-2 : goal.overflow_add-first-2
overflow_add-first-2 t c =
    let f = c.if-left-eq0.false in
    let u = c.unit_of-unit.result in
    let e = c.unit_of-unit.ensures in
    let t255 = taken c.args.at c.args.left c.args.slot c.args.word (length c.args.out.now) u f e c.requires in
    omega (arith, t255, c.requires.3)

pub grow-fourth_at-requires : goal.grow-fourth_at-requires
grow-fourth_at-requires t c =
    let f = c.if-left-eq0.false in
    let u = c.unit_of-unit.result in
    let e = c.unit_of-unit.ensures in
    let t255 = taken c.args.at c.args.left c.args.slot c.args.word (length c.args.out.now) u f e c.requires in (
      let p = pos_of_ne-zero f in omega (arith, c.requires.0),
      next c.args.at c.args.left c.args.slot c.args.word (length c.args.out.now) u f e c.requires 2 c.grow-third_at.result (c.args.word - 255 * u + 2 * u) _ (omega arith) (omega (arith, t255)) (omega (arith, c.grow-third_at.ensures.0, c.grow-second_at.ensures.0)) (c.grow-third_at.auto.out ∙ c.grow-second_at.auto.out),
    )

pub overflow_sub-left-4 : goal.overflow_sub-left-4
overflow_sub-left-4 t c = pos_of_ne-zero c.if-left-eq0.false

pub overflow_add-slot-4 : goal.overflow_add-slot-4
overflow_add-slot-4 t c = let h = c.requires.1 in omega (arith, h)

pub overflow_mul-unit-2 : goal.overflow_mul-unit-2
overflow_mul-unit-2 t c =
    let f = c.if-left-eq0.false in
    let u = c.unit_of-unit.result in
    let e = c.unit_of-unit.ensures in
    let t255 = taken c.args.at c.args.left c.args.slot c.args.word (length c.args.out.now) u f e c.requires in
    omega (arith, t255, c.requires.3)

pub overflow_add-first-3 : goal.overflow_add-first-3
overflow_add-first-3 t c =
    let f = c.if-left-eq0.false in
    let u = c.unit_of-unit.result in
    let e = c.unit_of-unit.ensures in
    let t255 = taken c.args.at c.args.left c.args.slot c.args.word (length c.args.out.now) u f e c.requires in
    omega (arith, t255, c.requires.3)

pub grow-requires : goal.grow-requires
grow-requires t c =
    let f = c.if-left-eq0.false in
    let u = c.unit_of-unit.result in
    let e = c.unit_of-unit.ensures in
    let t255 = taken c.args.at c.args.left c.args.slot c.args.word (length c.args.out.now) u f e c.requires in (
      let p = pos_of_ne-zero f in omega (arith, c.requires.0),
      next c.args.at c.args.left c.args.slot c.args.word (length c.args.out.now) u f e c.requires 3 c.grow-fourth_at.result (c.args.word - 255 * u + 3 * u) _ (omega arith) (omega (arith, t255)) (omega (arith, c.grow-fourth_at.ensures.0, c.grow-third_at.ensures.0, c.grow-second_at.ensures.0)) (c.grow-fourth_at.auto.out ∙ c.grow-third_at.auto.out ∙ c.grow-second_at.auto.out),
    )

pub shape_of-out : goal.shape_of-out
shape_of-out t c = c.grow.auto.out ∙ c.grow-fourth_at.auto.out ∙ c.grow-third_at.auto.out ∙ c.grow-second_at.auto.out

pub returns : goal.returns
returns t c =
    let f = c.if-left-eq0.false in
    let u = c.unit_of-unit.result in
    let e = c.unit_of-unit.ensures in (
      omega (arith, quarter c.args.left f, c.grow.ensures.0, c.grow-fourth_at.ensures.0, c.grow-third_at.ensures.0, c.grow-second_at.ensures.0),
      grown c.args.out.now c.grow-second_at.new.out c.grow-third_at.new.out c.grow-fourth_at.new.out c.args.at c.grow-second_at.result c.grow-third_at.result c.grow-fourth_at.result c.args.left c.args.slot c.args.word u f e _
          c.grow-second_at.ensures.0 c.grow-third_at.ensures.0 c.grow-fourth_at.ensures.0 c.grow-second_at.ensures.1 c.grow-third_at.ensures.1 c.grow-fourth_at.ensures.1 c.grow.ensures.1,
    )
