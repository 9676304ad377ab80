-- What is given at v bits, v bits hold. Assumes nothing.
use mathlib.Core.Path.{◌≡◌, refl, ap}
use mathlib.Core.List.{List}
use Prim.Native.Nat.{ℕ, ◌^◌, ◌≤◌, ◌<◌}
use native.Mathlib.Nat.{mod-eq_of_lt}
use native.Mathlib.Omega.{arith}
use lib.Pow.{pow_pos}
use Rattle.util_defs.specs.Width.{M}
use Rattle.util_defs.specs.Placed.{Placed, reached, stopped, go_on}
use Rattle.trailing_defs.specs.Size.{Trailing}
use Rattle.share_defs.specs.Share.{Share, share_for}
use Rattle.share_defs.specs.Meaning.{ShareMeans}
use Rattle.share_defs.proofs.Meaning.{share_means}
use Rattle.share_defs.proofs.Bounds.{Within, share_within}
use Rattle.share.specs.View.{low_share}

-- v bits keep all of a share that they hold, and they hold what is given
low_share_lem : (v : ℕ) (r : Share) → Within v r → low_share v r ≡ r
low_share_lem v r h =
    simp (mod-eq_of_lt (lt h.padding_numerator), mod-eq_of_lt (lt h.padding_denominator), mod-eq_of_lt (lt h.mean_numerator), mod-eq_of_lt (lt h.greatest))
  where
    lt : {n : ℕ} → n ≤ M v → n < 2 ^ v
    lt l = omega (arith, l, pow_pos v)

pub share_low : (v : ℕ) (t : Trailing) (ns : List ℕ) → 0 < v → go_on (share_for v t ns) (λ r. reached (low_share v r)) ≡ share_for v t ns
share_low v t ns pos = go (share_for v t ns) (share_means v t ns)
  where
    go : (o : Placed Share) → ShareMeans v t ns o → go_on o (λ r. reached (low_share v r)) ≡ o
    go (reached r) (a, x) = ap reached (low_share_lem v r (share_within v t ns r pos a x))
    go (stopped k i) x = refl
