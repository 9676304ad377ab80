-- `listing_line::digits` meets its contract. Assumes nothing.
use mathlib.Core.Path.{refl}
use native.Mathlib.Omega.{arith}
use lib.ListN.{length-set}
use Prim.Native.Nat.{◌/◌, ◌-◌, ◌+◌, ◌%◌}
use Rattle.listing_line.specs.Line.{digits_of}
use Rattle.listing_line.proofs.Lines.{digits_one, digits_more, digits_length, fewer, one_more}
use Rattle.listing_line.proofs.+digits.Goals as goal

pub overflow_cast-out : goal.overflow_cast-out
overflow_cast-out t c = omega arith

pub overflow_add-out : goal.overflow_add-out
overflow_add-out t c = omega arith

pub bounds-out-at : goal.bounds-out-at
bounds-out-at t c = omega arith

pub overflow_add-result : goal.overflow_add-result
overflow_add-result t c = omega arith

pub shape_of-out-then-n-lt10 : goal.shape_of-out-then-n-lt10
shape_of-out-then-n-lt10 t c = simp length-set

pub returns-then-n-lt10 : goal.returns-then-n-lt10
returns-then-n-lt10 t c = rw (digits_one c.args.places c.args.n c.requires.1 c.if-n-lt10.true) (refl, refl)

pub overflow_sub-places : goal.overflow_sub-places
overflow_sub-places t c = omega arith

pub digits-next-requires : goal.digits-next-requires
digits-next-requires t c = let f = fewer c.args.places c.args.n c.requires.0 c.if-n-lt10.false in (omega (arith, c.requires.0), (f.0, f.1, omega arith))

pub overflow_cast-out-2 : goal.overflow_cast-out-2
overflow_cast-out-2 t c = omega arith

pub overflow_add-out-2 : goal.overflow_add-out-2
overflow_add-out-2 t c = omega arith

pub bounds-out-next : goal.bounds-out-next
bounds-out-next t c = omega (arith, digits_length (c.args.places - 1) (c.args.n / 10), c.digits-next.auto.out, c.digits-next.ensures.0)

pub overflow_add-result-2 : goal.overflow_add-result-2
overflow_add-result-2 t c = omega (arith, digits_length (c.args.places - 1) (c.args.n / 10), c.digits-next.ensures.0)

pub shape_of-out : goal.shape_of-out
shape_of-out t c = simp length-set c.digits-next.auto.out

pub returns : goal.returns
returns t c = rw (digits_more c.args.places c.args.n c.requires.1 c.if-n-lt10.false) (one_more c.args.out.now c.digits-next.new.out (digits_of (c.args.places - 1) (c.args.n / 10)) c.args.at _ (48 + c.args.n % 10) c.digits-next.ensures.0 c.digits-next.ensures.1)
