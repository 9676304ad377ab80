-- Each meaning of the rounding helpers is had by one number at most. Assumes nothing.
use mathlib.Core.Path.{◌≡◌}
use mathlib.Core.Logic.{◌⊎◌, inl, inr}
use Prim.Native.Nat.{ℕ}
use native.Mathlib.Omega.{arith}
use Rattle.util_defs.specs.Round.{GreatestMultiple, LeastPadding}
use Rattle.util_defs.specs.Helpers.{Larger, Smaller}

pub one_multiple : {v A m n : ℕ} → GreatestMultiple v A m → GreatestMultiple v A n → m ≡ n
one_multiple {v} {A} {m} {n} g h = omega (arith, g.greatest n h.multiple h.within, h.greatest m g.multiple g.within)

pub one_least_padding : {w v A q r : ℕ} → LeastPadding w v A q → LeastPadding w v A r → q ≡ r
one_least_padding {w} {v} {A} {q} {r} g h = omega (arith, g.least r h.multiple, h.least q g.multiple)

pub one_larger : {a b r s : ℕ} → Larger a b r → Larger a b s → r ≡ s
one_larger {a} {b} {r} {s} g h = go g.one h.one
  where
    go : (r ≡ a) ⊎ (r ≡ b) → (s ≡ a) ⊎ (s ≡ b) → r ≡ s
    go (inl x) (inl y) = omega arith
    go (inl x) (inr y) = omega (arith, g.right, h.left)
    go (inr x) (inl y) = omega (arith, g.left, h.right)
    go (inr x) (inr y) = omega arith

pub one_smaller : {a b r s : ℕ} → Smaller a b r → Smaller a b s → r ≡ s
one_smaller {a} {b} {r} {s} g h = go g.one h.one
  where
    go : (r ≡ a) ⊎ (r ≡ b) → (s ≡ a) ⊎ (s ≡ b) → r ≡ s
    go (inl x) (inl y) = omega arith
    go (inl x) (inr y) = omega (arith, g.right, h.left)
    go (inr x) (inl y) = omega (arith, g.left, h.right)
    go (inr x) (inr y) = omega arith
