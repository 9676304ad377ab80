-- What an addition to lent words is, by what their test says, at any width w. Assumes nothing.
use mathlib.Core.Path.{◌≡◌, sym, ap, ◌∙◌}
use Prim.Native.Nat.{ℕ}
use Rattle.util_defs.specs.Refusal.{Outcome, answered, refused}
use Rattle.layout_defs.specs.Layout.{Layout}
use Rattle.record_defs.specs.Record.{Words, words_for}
use Rattle.record_defs.proofs.RoundTrips.{words_accepted}
use Rattle.compose_defs.specs.Compose.{Member, member_step, ported}
use Rattle.compose_defs.specs.Typed.{addition_for}
use Rattle.compose_defs.proofs.Typed.{addition_step}
use Rattle.exports_layouts.specs.Layouts.{bind_outcome}
use Rattle.exports_working.specs.Working.{working_for}

by_test : (w p : ℕ) (r : Words) (m : Member) {o : Outcome Layout} → words_for w r ≡ o → bind_outcome o (λ own. addition_for w p own m) ≡ working_for w p r m
by_test w p r m e = ap (λ (o : Outcome Layout). bind_outcome o (λ own. addition_for w p own m)) (sym e)

pub words_on : (w p : ℕ) (r : Words) (m : Member) {own : Layout} → words_for w r ≡ answered own → addition_for w p own m ≡ working_for w p r m
words_on w p r m e = by_test w p r m e

pub words_off : (w p : ℕ) (r : Words) (m : Member) {k : ℕ} → words_for w r ≡ refused k → refused k ≡ working_for w p r m
words_off w p r m e = by_test w p r m e

pub member_off : (w p : ℕ) (r : Words) (m : Member) {own : Layout} {k : ℕ} → words_for w r ≡ answered own → m ≡ refused k → refused k ≡ working_for w p r m
member_off w p r m {own} e f =
    sym (ap (member_step w ported p own) f) ∙ sym (addition_step w p own m (words_accepted w r e)) ∙ words_on w p r m e
