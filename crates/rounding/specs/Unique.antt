-- A word has its alignment and its phase in one way: what a ghost field, of which there may be one proof, asks for. Assumes
-- nothing.
use Rattle.std.specs.Prelude.{ℕ, ◌+◌}
use native.Mathlib.Nat.{ℕ_set}
use Rattle.std.specs.Coded.{le_prop}
use Rattle.util_defs.specs.Unique.{power_prop}
use Rattle.rounding.specs.Word.{IsWord}

pub word_prop : {n A p : ℕ} → IsProp (IsWord n A p)
word_prop {n} {A} {p} x y =
    λ i. record { power = power_prop x.power y.power i; below = le_prop x.below y.below i; sum = ℕ_set n (A + p) x.sum y.sum i }
