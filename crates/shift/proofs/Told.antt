-- What the answer of a shift tells its callers. Assumes nothing.
use Rattle.util.specs.declared.refusal.Refusal.{Refusal}
use Rattle.std.specs.Prelude.{Err, Ok, None, Some, Option, Result, Bool}
use Rattle.std.specs.Result.{result_unwrap_or, result_ok}
use mathlib.Core.Path.{◌≡◌, refl, sym, ap₂, ◌∙◌}
use Rattle.util.specs.View.{number_says, decision_says}
use Prim.Native.Nat.{ℕ, ◌^◌, ◌<◌}
use borrow.Author.Tests.{ne_eqb}
use native.Mathlib.Omega.{arith}
use Rattle.util_defs.specs.Refusal.{Outcome, answered}
use Rattle.util_defs.specs.Refusal as refusal
use Rattle.util_defs.proofs.Refusals.{clear}
use Rattle.util_defs.proofs.Tables.{told_by, apart, both_none}
use Rattle.trailing_defs.specs.Size.{Trailing}
use Rattle.layout_defs.specs.Layout.{Info, trailing, Layout, layout_causes}
use Rattle.shift_defs.specs.Match.{Comparison}
use Rattle.shift_defs.specs.Shift.{answered_by, shift_of, shift_between, shift_causes, shift_for}
use Rattle.shift.specs.View.{shift_in, shift_says}
use Rattle.shift_defs.proofs.Shifts.{shift_decided}

-- a decision that is no refusal, by `unwrap_or`
pub decision_told : {b : Bool} (d : Bool) (r : Result Bool Refusal) → decision_says r ≡ answered b → result_unwrap_or r d ≡ b
decision_told {b} d (Ok x) e = cc
decision_told {b} d (Err k) e = absurd (apart e)

-- what is there by `ok`, and that something is
pub ok_some : {x : ℕ} (r : Result ℕ Refusal) → result_ok r ≡ Some x → r ≡ Ok x
ok_some {x} (Ok y) e = cc
ok_some {x} (Err k) e = let z : ◌≡◌ {A = ℕ} 0 1 = cc in absurd (omega arith)

pub ok_there : {x : ℕ} {o : Outcome ℕ} (r : Result ℕ Refusal) → number_says r ≡ o → o ≡ answered x → result_ok r ≡ None → ⊥
ok_there {x} {o} (Ok y) e a n = let z : ◌≡◌ {A = ℕ} 0 1 = cc in omega arith
ok_there {x} {o} (Err k) e a n = apart (e ∙ a)

-- a count that is found is a shift by it
pub by_ok : (r : Result ℕ Refusal) → shift_in (result_ok r) ≡ answered_by (number_says r)
by_ok (Ok d) = refl
by_ok (Err k) = refl

-- between trailing layouts that are accepted, the elements of the second having a size, the shift is answered
shift_answered : (w : ℕ) (same : Comparison) (l m : Layout) (s t : Trailing) → l.align < 2 ^ w → m.align < 2 ^ w → refusal.None (layout_causes w l) → refusal.None (layout_causes w m)
    → l.info ≡ trailing s → m.info ≡ trailing t → 0 < t.elem → shift_for w same l m ≡ answered (shift_of w same s m t)
unfolding shift_for
shift_answered w same l m s t hl hm ol om i j n =
    clear (shift_causes w l m) (shift_decided w l m hl hm) (both_none (layout_causes w l) (layout_causes w m) ol om)
    ∙ ap₂ (λ (x y : Info). answered (shift_between w same x m y)) i j
    ∙ simp (ne_eqb t.elem 0 (λ z. omega arith))

-- so it is what a caller finds, and no refusal
pub shift_told : {d : Option ℕ} (w : ℕ) (same : Comparison) (l m : Layout) (s t : Trailing) (r : Result (Option ℕ) Refusal) → l.align < 2 ^ w → m.align < 2 ^ w
    → refusal.None (layout_causes w l) → refusal.None (layout_causes w m) → l.info ≡ trailing s → m.info ≡ trailing t → 0 < t.elem
    → shift_says r ≡ shift_for w same l m → r ≡ Ok d → shift_in d ≡ shift_of w same s m t
shift_told {d} w same l m s t r hl hm ol om i j n e g =
    let z : answered (shift_in d) ≡ answered (shift_of w same s m t) = sym (told_by shift_says e g) ∙ shift_answered w same l m s t hl hm ol om i j n in
    cc

pub shift_kept : {k : Refusal} (w : ℕ) (same : Comparison) (l m : Layout) (s t : Trailing) (r : Result (Option ℕ) Refusal) → l.align < 2 ^ w → m.align < 2 ^ w
    → refusal.None (layout_causes w l) → refusal.None (layout_causes w m) → l.info ≡ trailing s → m.info ≡ trailing t → 0 < t.elem
    → shift_says r ≡ shift_for w same l m → r ≡ Err k → ⊥
shift_kept w same l m s t r hl hm ol om i j n e g = apart (sym (told_by shift_says e g) ∙ shift_answered w same l m s t hl hm ol om i j n)
