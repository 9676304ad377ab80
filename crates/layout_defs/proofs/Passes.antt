-- Numbers that must not pass M: the table of 8 alone. Assumes nothing.
use Rattle.util.specs.declared.refusal.Refusal.{Refusal}
use Rattle.std.specs.Prelude.{Err, Ok, Result}
use mathlib.Core.Path.{◌≡◌, sym, ap, ◌∙◌}
use mathlib.Core.Bool.{Bool, cond}
use mathlib.Core.List.{[], ◌∷◌}
use Prim.Native.Nat.{ℕ, ◌^◌, ◌≤◌, ◌<◌}
use native.Mathlib.Omega.{arith}
use borrow.Author.Tests.{le-ltb, lt-ltb}
use Rattle.util_defs.specs.Width.{M}
use Rattle.util_defs.specs.Round.{up}
use Rattle.util_defs.specs.Refusal.{answered, refused, unless, Tells, holds, fails, Meets}
use Rattle.util.specs.View.{number_of, number_says}
use Rattle.util_defs.proofs.Refusals.{tells_lt, meets}
use Rattle.util_defs.proofs.Powers.{positive}
use Rattle.util_defs.proofs.Rounding.{up_multiple, up_ge, up_least}
use Rattle.util_defs.proofs.Helpers.{power, align_decided}
use Rattle.layout_defs.specs.Extend.{rounding_passes, LeastPlace, round_up_causes, round_up_for}
use Rattle.util_defs.proofs.Tables.{apart}

-- a number that is at most M is not refused; one above M is, by 8
pub within : {T : Type 0} (w v : ℕ) (x : T) → v ≤ M w → answered x ≡ unless (rounding_passes w v ∷ []) x
unfolding unless
within w v x h = simp (le-ltb (M w) v h)

pub past : {T : Type 0} (w v : ℕ) (x : T) → M w < v → refused 8 ≡ unless (rounding_passes w v ∷ []) x
unfolding unless
past w v x h = simp (lt-ltb (M w) v h)

-- and what an answer and a refusal say of the number
kept : {T : Type 0} (m v : ℕ) {b : Bool} {x y : T} → Tells (m < v) b → answered y ≡ cond b (refused 8) (answered x) → (y ≡ x) × (v ≤ m)
kept m v (holds p) e = absurd (apart (sym e))
kept m v (fails n) e = (cc, omega (arith, n))

refused_means : {T : Type 0} (m v k : ℕ) {b : Bool} (x : T) → Tells (m < v) b → refused k ≡ cond b (refused 8) (answered x) → (k ≡ 8) × (m < v)
refused_means m v k x (holds p) e = (cc, p)
refused_means m v k x (fails n) e = absurd (apart e)

pub up_told : {n : ℕ} (w v : ℕ) (r : Result ℕ Refusal) → number_says r ≡ unless (rounding_passes w v ∷ []) v → r ≡ Ok n → (n ≡ v) × (v ≤ M w)
unfolding unless
up_told w v r e g = kept (M w) v (tells_lt (M w) v) (sym (ap number_says g) ∙ e)

pub up_refused : {k : Refusal} (w v : ℕ) (r : Result ℕ Refusal) → number_says r ≡ unless (rounding_passes w v ∷ []) v → r ≡ Err k → (number_of k ≡ 8) × (M w < v)
unfolding unless
up_refused {k} w v r e g = refused_means (M w) v (number_of k) v (tells_lt (M w) v) (sym (ap number_says g) ∙ e)

-- rounding up gives the least place
pub least_place : (s a : ℕ) → 0 < a → LeastPlace s a (up s a)
least_place s a h = record { after = up_ge s a h; aligned = up_multiple s a; least = λ k g e. up_least s a k h e g }

pub round_meets : (w v a : ℕ) → a < 2 ^ w → Meets (round_up_causes w v a) (LeastPlace v a) (round_up_for w v a)
unfolding round_up_for
round_meets w v a h =
    meets (round_up_causes w v a) (up v a) (align_decided w a h, λ _. (tells_lt (M w) (up v a), λ _. tt)) (λ n. least_place v a (positive (power w a h n.0)))
