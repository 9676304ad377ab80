-- Each meaning of casts is had by one answer at most. Assumes nothing.
use mathlib.Core.Path.{◌≡◌, sym, ap, ◌∙◌}
use Prim.Native.Nat.{ℕ}
use native.Mathlib.Omega.{arith}
use Rattle.layout_defs.specs.Layout.{Info, fixed, trailing, size_in}
use Rattle.cast_defs.specs.Cast.{Side, split_at, Grant, GrantMeans}
use Rattle.cast_defs.specs.Exact.{ExactIn}
use Rattle.cast_defs.proofs.Grants.{one_greatest}

pub one_grant : {w : ℕ} {i : Info} {side : Side} {len : ℕ} (g h : Grant) → GrantMeans w i side len g → GrantMeans w i side len h → g ≡ h
one_grant {w} {i} {side} {len} g h x y =
    let c = one_greatest x.greatest y.greatest in
    λ j. record { count = c j; split = (x.split ∙ ap (λ (n : ℕ). split_at side len (size_in w i n)) c ∙ sym y.split) j }

pub one_exact : (w : ℕ) (i : Info) (s m n : ℕ) → ExactIn w i s m → ExactIn w i s n → m ≡ n
one_exact w (fixed z) s m n x y = absurd x
one_exact w (trailing t) s m n x y = omega (arith, x.greatest n y.size, y.greatest m x.size)
