-- `recorded::read_line` meets its contract. Assumes nothing.
use mathlib.Core.Path.{◌≡◌, refl, sym, ap, ◌∙◌}
use mathlib.Core.Bool.{Bool, false}
use mathlib.Core.List.{List}
use Prim.Native.Nat.{ℕ}
use Rattle.std.specs.Prelude.{Option, Some}
use native.Mathlib.Omega.{arith}
use lib.ListN.{drop}
use Rattle.recorded_defs.specs.Lines.{number, number_from}
use Rattle.recorded.specs.declared.Number.{Number}
use Rattle.recorded.specs.View.{number_says, line_says}
use Rattle.recorded_defs.proofs.Reading.{number_within, line_full, line_last, line_on, line_off}
use Rattle.recorded.proofs.read_line.Goals as goal

-- the number that was read, whether it is the last or not
read : (s : List ℕ) (at : ℕ) {r : Option Number} {n : Number} {b : Bool} → number_says r ≡ number_from 0 false at (drop at s) → r ≡ Some n
    → n.is_last ≡ b → number_from 0 false at (drop at s) ≡ number n.value b n.next
read s at {n = n} e f g = sym e ∙ ap number_says f ∙ ap (λ (b : Bool). number n.value b n.next) g

pub loop-count-init : goal.loop-count-init
loop-count-init c = (omega arith, refl)

pub returns-then-number-clause-answer : goal.returns-then-number-clause-answer
returns-then-number-clause-answer c =
    let l = c.loop-count in
    sym (line_last c.args.text.now l.numbers l.at l.count c.loop-count-test.true (read c.args.text.now c.loop-count.at c.read_number.ensures c.in_ok-number.was c.if-number.true)) ∙ l.invariant.1

pub returns-then-number-clause-ahead : goal.returns-then-number-clause-ahead
returns-then-number-clause-ahead c =
    let w = number_within c.args.text.now 0 c.loop-count.at false (read c.args.text.now c.loop-count.at c.read_number.ensures c.in_ok-number.was c.if-number.true) in (omega (arith, w.0, c.loop-count.invariant.0), w.1)

pub loop-count-preserved : goal.loop-count-preserved
loop-count-preserved c =
    let l = c.loop-count in
    let e = read c.args.text.now c.loop-count.at c.read_number.ensures c.in_ok-number.was c.if-number.false in
    (omega (arith, (number_within c.args.text.now 0 l.at false e).0, l.invariant.0), sym (line_on c.args.text.now l.numbers l.at l.count c.loop-count-test.true e) ∙ l.invariant.1)

pub returns-in_err-number-clause-answer : goal.returns-in_err-number-clause-answer
returns-in_err-number-clause-answer c =
    let l = c.loop-count in
    ap line_says c.from_residual.ensures ∙ sym (line_off c.args.text.now l.numbers l.at l.count c.loop-count-test.true (sym c.read_number.ensures ∙ ap number_says c.in_err-number.was)) ∙ l.invariant.1

pub returns-clause-answer : goal.returns-clause-answer
returns-clause-answer c =
    let l = c.loop-count in
    sym (line_full c.args.text.now l.numbers l.at l.count c.loop-count-test.false) ∙ l.invariant.1
