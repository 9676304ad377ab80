-- `recorded::read_number` meets its contract. Assumes nothing.
use mathlib.Core.Path.{◌≡◌, refl, sym, subst, ◌∙◌}
use mathlib.Core.Bool.{true}
use Prim.Native.Nat.{ℕ, ◌+◌, ◌*◌, ◌≤◌, ◌<◌}
use Rattle.std.specs.Prelude.{Option, Some, None}
use Rattle.recorded_defs.specs.Lines.{digit_of}
use Rattle.recorded.specs.View.{digit_says}
use native.Mathlib.Omega.{arith}
use native.Mathlib.Nat.{le_refl}
use borrow.Author.Tests.{lt-ltb, le-ltb}
use Rattle.util_defs.specs.Width.{M}
use lib.Dec.{ltb}
use lib.ListN.{get_or}
use Rattle.recorded_defs.proofs.Reading.{number_ends, number_passes, number_on, number_over}
use Rattle.recorded.proofs.read_number.Goals as goal

-- a digit that was read, and a byte that is none
some_read : (b : ℕ) {d : ℕ} {r : Option ℕ} → digit_says b r → r ≡ Some d → (d ≡ digit_of b) × (d ≤ 9)
some_read b h e = subst (digit_says b) e h

none_read : (b : ℕ) {r : Option ℕ} → digit_says b r → r ≡ None → 9 < digit_of b
none_read b h e = subst (digit_says b) e h

pub loop-at-init : goal.loop-at-init
loop-at-init c = let f = c.args.from in (omega arith, rw (le-ltb f f (le_refl f)))

pub returns-in_default : goal.returns-in_default
returns-in_default c =
    let x = c.args in
    c.end_of.ensures
    ∙ sym (number_ends x.text.now c.loop-at.value c.loop-at.at (ltb x.from c.loop-at.at) c.loop-at-test.true refl (none_read (get_or x.text.now c.loop-at.at 0) c.digit.ensures c.in_default.is))
    ∙ c.loop-at.invariant.1

pub returns-then-value-digit : goal.returns-then-value-digit
returns-then-value-digit c =
    let x = c.args in
    let d = some_read (get_or c.args.text.now c.loop-at.at 0) c.digit.ensures c.in-Some.is in
    sym (number_passes x.text.now c.loop-at.value c.loop-at.at (ltb x.from c.loop-at.at) c.loop-at-test.true d.0 d.1 (omega (arith, c.if-value-digit.true)))
    ∙ c.loop-at.invariant.1

pub loop-at-preserved : goal.loop-at-preserved
loop-at-preserved c =
    let x = c.args in
    let d = some_read (get_or c.args.text.now c.loop-at.at 0) c.digit.ensures c.in-Some.is in
    let b : c.loop-at.value * 10 + c.in-Some.digit ≤ M 64 = omega (arith, c.if-value-digit.false) in
    let t : ltb x.from (c.loop-at.at + 1) ≡ true = lt-ltb x.from (c.loop-at.at + 1) (omega (arith, c.loop-at.invariant.0)) in
    (omega arith, rw t (sym (number_on x.text.now c.loop-at.value c.loop-at.at (ltb x.from c.loop-at.at) c.loop-at-test.true d.0 d.1 b) ∙ c.loop-at.invariant.1))

pub returns : goal.returns
returns c =
    let x = c.args in
    sym (number_over x.text.now c.loop-at.value c.loop-at.at (ltb x.from c.loop-at.at) c.loop-at-test.false) ∙ c.loop-at.invariant.1
