-- What the outcomes of the rounding helpers mean, at any width. Assumes nothing.
use mathlib.Core.Path.{◌≡◌, refl, sym, ap, ◌∙◌}
use mathlib.Core.Bool.{Bool, true, false}
use mathlib.Core.Logic.{inl, inr}
use Prim.Native.Nat.{ℕ, ◌+◌, ◌%◌, ◌^◌, ◌<◌, max, min}
use native.Mathlib.Nat.{le-max_left, le-max_right, max-eq_left, max-eq_right, min-eq_left, min-eq_right, min-le_left, min-le_right, le_of_lt}
use native.Mathlib.Omega.{arith}
use lib.Dec.{leb}
use borrow.Author.Tests.{leb-true, leb-false}
use Rattle.util_defs.specs.Power.{PowerOfTwo}
use Rattle.util_defs.specs.Round.{down, padding, GreatestMultiple, LeastPadding}
use Rattle.util_defs.specs.Refusal.{answered, Tells, Meets, Decided}
use Rattle.util_defs.specs.Helpers.{bad_align, align_causes, aligns_causes, padding_for, round_down_for, max_for, min_for, Larger, Smaller}
use Rattle.util_defs.proofs.Refusals.{known, tells_not, meets, clear}
use Rattle.util_defs.proofs.Powers.{positive, tells_power, divides, mod-through}
use Rattle.util_defs.proofs.Rounding.{down_is, up_multiple, up_least, up_padding}

-- not no power is a power, for a number that w bits hold
pub power : (w a : ℕ) → a < 2 ^ w → ((PowerOfTwo a → ⊥) → ⊥) → PowerOfTwo a
power w a h n = known (tells_power w a h) n

pub align_decided : (w a : ℕ) → a < 2 ^ w → Tells (bad_align w a).means (bad_align w a).test
align_decided w a h = tells_not (tells_power w a h)

pub padding_least : {a : ℕ} (w v : ℕ) → PowerOfTwo a → a < 2 ^ w → LeastPadding w v a (padding v a)
padding_least {a} w v p h =
    let d = divides w p h in
    let u = up_padding v a (positive p) in
    record {
      multiple = mod-through a (2 ^ w) (v + padding v a) d ∙ ap (λ (x : ℕ). x % a) u ∙ up_multiple v a;
      least = λ k e. omega (arith, u, up_least v a (v + k) (positive p) (sym (mod-through a (2 ^ w) (v + k) d) ∙ e) (omega arith));
    }

pub padding_meets : (w v a : ℕ) → a < 2 ^ w → Meets (align_causes w a) (LeastPadding w v a) (padding_for w v a)
unfolding padding_for
padding_meets w v a h = meets (align_causes w a) (padding v a) (align_decided w a h, λ _. tt) (λ n. padding_least w v (power w a h n.0) h)

pub down_meets : (w v a : ℕ) → a < 2 ^ w → Meets (align_causes w a) (GreatestMultiple v a) (round_down_for w v a)
unfolding round_down_for
down_meets w v a h = meets (align_causes w a) (down v a) (align_decided w a h, λ _. tt) (λ n. down_is v a (positive (power w a h n.0)))

max_larger : (a b : ℕ) → Larger a b (max a b)
max_larger a b = go (leb a b) refl
  where
    go : (t : Bool) → leb a b ≡ t → Larger a b (max a b)
    go true e = record { one = inr (max-eq_right (leb-true a b e)); left = le-max_left a b; right = le-max_right a b }
    go false e = record { one = inl (max-eq_left (le_of_lt (leb-false a b e))); left = le-max_left a b; right = le-max_right a b }

min_smaller : (a b : ℕ) → Smaller a b (min a b)
min_smaller a b = go (leb a b) refl
  where
    go : (t : Bool) → leb a b ≡ t → Smaller a b (min a b)
    go true e = record { one = inl (min-eq_left (leb-true a b e)); left = min-le_left a b; right = min-le_right a b }
    go false e = record { one = inr (min-eq_right (le_of_lt (leb-false a b e))); left = min-le_left a b; right = min-le_right a b }

aligns_decided : (w a b : ℕ) → a < 2 ^ w → b < 2 ^ w → Decided (aligns_causes w a b)
aligns_decided w a b ha hb = (align_decided w a ha, λ _. (align_decided w b hb, λ _. tt))

pub max_meets : (w a b : ℕ) → a < 2 ^ w → b < 2 ^ w → Meets (aligns_causes w a b) (Larger a b) (max_for w a b)
unfolding max_for
max_meets w a b ha hb = meets (aligns_causes w a b) (max a b) (aligns_decided w a b ha hb) (λ n. max_larger a b)

pub min_meets : (w a b : ℕ) → a < 2 ^ w → b < 2 ^ w → Meets (aligns_causes w a b) (Smaller a b) (min_for w a b)
unfolding min_for
min_meets w a b ha hb = meets (aligns_causes w a b) (min a b) (aligns_decided w a b ha hb) (λ n. min_smaller a b)

-- what the helpers answer of powers
pub padding_answered : {a : ℕ} (w v : ℕ) → PowerOfTwo a → a < 2 ^ w → padding_for w v a ≡ answered (padding v a)
unfolding padding_for
padding_answered {a} w v p h = clear (align_causes w a) (align_decided w a h, λ _. tt) ((λ n. n p), tt)

pub down_answered : {a : ℕ} (w v : ℕ) → PowerOfTwo a → a < 2 ^ w → round_down_for w v a ≡ answered (down v a)
unfolding round_down_for
down_answered {a} w v p h = clear (align_causes w a) (align_decided w a h, λ _. tt) ((λ n. n p), tt)

pub max_answered : {a b : ℕ} (w : ℕ) → PowerOfTwo a → PowerOfTwo b → a < 2 ^ w → b < 2 ^ w → max_for w a b ≡ answered (max a b)
unfolding max_for
max_answered {a} {b} w p q ha hb = clear (aligns_causes w a b) (aligns_decided w a b ha hb) ((λ n. n p), ((λ n. n q), tt))
