-- `trailing32::advance_within` meets its contract. Assumes nothing.
use Prim.Native.Nat.{ℕ}
use Rattle.trailing.specs.declared.TrailingSliceLayout.{TrailingSliceLayout}
use Rattle.util.specs.declared.refusal.Refusal.{Refusal}
use Rattle.std.specs.Prelude.{Result}
use Rattle.util.proofs.Told.{handed_on}
use mathlib.Core.Path.{sym, ap, ◌∙◌}
use mathlib.Core.Bool.{Bool, cond}
use borrow.Author.Tests.{le-leb, lt-leb}
use Rattle.util_defs.specs.Width.{M}
use Rattle.util_defs.specs.Refusal.{answered, refused}
use Rattle.trailing.specs.View.{trailing_of, advance_says}
use Rattle.widths_defs.specs.Low.{mapped, low_tail}
use Rattle.widths_defs.specs.Within.{advance_within}
use Rattle.trailing32.proofs.advance_within.Goals as goal

pub returns-then-tail-gt-MAX : goal.returns-then-tail-gt-MAX
returns-then-tail-gt-MAX c =
    let t = c.in_ok-tail.tail in
    ap (λ (b : Bool). mapped (low_tail 32) (cond b (answered (trailing_of t)) (refused 17))) (sym (lt-leb t.size_base (M 32) c.if-tail-gt-MAX.true))
    ∙ ap (λ (x : Result (TrailingSliceLayout ℕ) Refusal). mapped (low_tail 32) (advance_within (M 32) (advance_says x))) (sym c.in_ok-tail.was)

pub returns-else-tail-gt-MAX : goal.returns-else-tail-gt-MAX
returns-else-tail-gt-MAX c =
    let t = c.in_ok-tail.tail in
    ap answered c.low_tail.ensures
    ∙ ap (λ (b : Bool). mapped (low_tail 32) (cond b (answered (trailing_of t)) (refused 17))) (sym (le-leb t.size_base (M 32) c.if-tail-gt-MAX.false))
    ∙ ap (λ (x : Result (TrailingSliceLayout ℕ) Refusal). mapped (low_tail 32) (advance_within (M 32) (advance_says x))) (sym c.in_ok-tail.was)

pub returns-in_err-tail : goal.returns-in_err-tail
returns-in_err-tail c = handed_on _ c.from_residual.result _ c.from_residual.ensures.1 (simp c.in_err-tail.was)
