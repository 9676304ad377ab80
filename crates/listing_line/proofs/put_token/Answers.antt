-- `listing_line::put_token` meets its contract. Assumes nothing.
use mathlib.Core.Path.{◌≡◌, sym}
use native.Mathlib.Omega.{arith}
use Rattle.listing_line.specs.Line.{digits_of, decimal, token}
use Rattle.listing_line.proofs.Lines.{digits_length, decimal_as, one_more}
use Rattle.listing_line.proofs.put_token.Goals as goal

pub bounds-out-next : goal.bounds-out-next
bounds-out-next c = omega (arith, digits_length 20 c.args.n, c.digits-next.auto.out, c.digits-next.ensures.0)

pub overflow_add-result : goal.overflow_add-result
overflow_add-result c = omega (arith, digits_length 20 c.args.n, c.digits-next.ensures.0)

pub returns-clause-value : goal.returns-clause-value
unfolding token
returns-clause-value c =
    let e : digits_of 20 c.args.n ≡ decimal c.args.n = decimal_as 20 c.args.n (omega arith) (omega arith) in rw (sym e) (one_more c.args.out.now c.digits-next.new.out (digits_of 20 c.args.n) c.args.at _ c.args.c c.digits-next.ensures.0 c.digits-next.ensures.1)

pub returns-clause-upper_bound : goal.returns-clause-upper_bound
unfolding token
returns-clause-upper_bound c =
    let e : digits_of 20 c.args.n ≡ decimal c.args.n = decimal_as 20 c.args.n (omega arith) (omega arith) in omega (arith, digits_length 20 c.args.n, c.digits-next.ensures.0)
