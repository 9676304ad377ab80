-- `sums::test` meets its contract. Assumes nothing.
use Rattle.std.specs.Prelude.{Err}
use Rattle.std.proofs.lemmas.Result.{err_from_is_err_and}
use mathlib.Core.Path.{sym, ap, ◌∙◌, subst}
use Prim.Native.Nat.{ℕ}
use native.Mathlib.Omega.{arith}
use Rattle.util_defs.specs.Placed.{stopped}
use Rattle.trailing.proofs.Told.{decoded_told, decoded_refused}
use Rattle.rounding.proofs.Words.{not_zero}
use Rattle.trailing.specs.View.{trailing_of}
use Rattle.share_defs.proofs.Told.{sums_bad_word, sums_empty}
use Rattle.sums.specs.Bits.{bits_to}
use Rattle.sums.specs.View.{TestMeans}
use Rattle.sums.proofs.test.Goals as goal

pub returns-then-count-eq0 : goal.returns-then-count-eq0
returns-then-count-eq0 c = λ ns e.
    let x = ap (λ l. (trailing_of l).word) (decoded_told c.decoded.result c.decoded.ensures c.in_ok-decoded.was) in
    sym (sums_empty (bits_to c.args.max) (trailing_of c.args.layout) ns (omega (arith, x, not_zero c.in_ok-decoded.decoded.is_word)) (e ∙ c.if-count-eq0.true))

pub test_size-requires : goal.test_size-requires
test_size-requires c =
    let x = ap (λ l. (trailing_of l).word) (decoded_told c.decoded.result c.decoded.ensures c.in_ok-decoded.was) in
    ((c.requires.0, omega (arith, x, c.requires.1)), omega arith)

pub returns : goal.returns
returns c = subst (λ l. TestMeans (trailing_of l) c.args.max c.args.count c.test_size.result) (decoded_told c.decoded.result c.decoded.ensures c.in_ok-decoded.was) c.test_size.ensures

pub returns-in_err-decoded : goal.returns-in_err-decoded
returns-in_err-decoded c =
    let p = err_from_is_err_and c.from_residual.result c.from_residual.ensures.1 in
    let z = decoded_refused c.decoded.result c.decoded.ensures c.in_err-decoded.was in
    subst (TestMeans (trailing_of c.args.layout) c.args.max c.args.count) (sym (p.1 ∙ ap Err p.2))
    (λ ns e. ap (λ (n : ℕ). stopped n 0) z.1 ∙ sym (sums_bad_word (bits_to c.args.max) (trailing_of c.args.layout) ns z.0))
