-- What bounds the share and the refusals, at any width w. Assumes nothing.
use mathlib.Core.Path.{◌≡◌, subst}
use mathlib.Core.List.{List, [], ◌∷◌}
use mathlib.Core.Logic.{inl, inr}
use Prim.Native.Nat.{ℕ, zero, suc, ◌-◌, ◌^◌, ◌≤◌, ◌<◌}
use native.Mathlib.Nat.{le_of_mul-le-mul_right, mul-le-mul_right}
use native.Mathlib.Omega.{arith}
use lib.ListN.{length, take, get_or}
use lib.Pow.{pow_mono}
use lib.Seq.{take_all}
use Rattle.util_defs.specs.Width.{M}
use Rattle.util_defs.specs.Refusal.{First}
use Rattle.util_defs.proofs.Refusals.{known, tells_le}
use Rattle.util_defs.proofs.Tables.{number_among}
use Rattle.trailing_defs.specs.Size.{Trailing}
use Rattle.gcd_defs.proofs.Fractions.{terms_within}
use Rattle.share_defs.specs.Totals.{sum, total_size, causes_at}
use Rattle.share_defs.specs.Share.{Share, list_causes}
use Rattle.share_defs.specs.Meaning.{Portion, Shares, Accepted, StopsAt, Stops}
use Rattle.share_defs.proofs.Paddings.{padding_within}
use Rattle.share_defs.proofs.Order.{padding_size}

-- the share is at most 1
pub at_most_one : (w : ℕ) (t : Trailing) (ns : List ℕ) (r : Share) → Shares w t ns r → r.padding.numerator ≤ r.padding.denominator
at_most_one w t ns r x = go x.padding
  where
    go : Portion (sum x.paddings) (total_size w t ns) r.padding → r.padding.numerator ≤ r.padding.denominator
    go (inl e) = omega arith
    go (inr (pos, l)) =
        let s = total_size w t ns in
        let f = r.padding in
        let m = mul-le-mul_right f.denominator (padding_within w t ns x.paddings x.each) in
        le_of_mul-le-mul_right {m = f.numerator} {n = f.denominator} {k = s} (omega (arith, l.equal)) pos

module _ (w : ℕ) (t : Trailing) (ns : List ℕ) where
  -- 53 is always the sizes' sum
  pub passed_by_sizes : (i : ℕ) → StopsAt w t ns 53 i → M w < total_size w t (take (suc i) ns)
  passed_by_sizes i s = go s.first
    where
      go : First (causes_at w t ns i) 53 → M w < total_size w t (take (suc i) ns)
      go (inl (x, e)) = absurd (omega arith)
      go (inr (x, inl (y, e))) = absurd (omega arith)
      go (inr (x, inr (y, inl (z, e)))) = absurd (omega arith)
      go (inr (x, inr (y, inr (z, inl (inl h, e))))) = h
      go (inr (x, inr (y, inr (z, inl (inr h, e))))) = omega (arith, padding_size w t (take (suc i) ns))
      go (inr (x, inr (y, inr (z, inr (h, f))))) = absurd f

  -- 39 comes at the first count alone
  pub none_at_first : (i : ℕ) → Stops w t ns 39 i → i ≡ 0
  none_at_first zero s = omega arith
  none_at_first (suc i) (inl (f, e)) = absurd (number_among (λ k. k ≡ 39 → ⊥) (list_causes t ns) 39 ((λ e. omega arith), ((λ e. omega arith), tt)) f (omega arith))
  none_at_first (suc i) (inr s) = absurd (go s.first)
    where
      go : First (causes_at w t ns (suc i)) 39 → ⊥
      go (inl (x, e)) = (s.before 0 (omega arith)).0 x
      go (inr (x, inl (y, e))) = omega arith
      go (inr (x, inr (y, inl (z, e)))) = omega arith
      go (inr (x, inr (y, inr (z, inl (h, e))))) = omega arith
      go (inr (x, inr (y, inr (z, inr (h, f))))) = f

-- a number of a list is at most their sum
sum_of : (qs : List ℕ) (i : ℕ) → get_or qs i 0 ≤ sum qs
sum_of [] i = omega arith
sum_of (q ∷ qs) zero = omega arith
sum_of (q ∷ qs) (suc i) = omega (arith, sum_of qs i)

-- what is given of accepted counts, w bits hold, but for the number of counts and an index: the total size is at most M
pub record Within (w : ℕ) (r : Share) : Type 0 where
  pub padding_numerator : r.padding.numerator ≤ M w
  pub padding_denominator : r.padding.denominator ≤ M w
  pub mean_numerator : r.mean.numerator ≤ M w
  pub greatest : r.greatest ≤ M w

total_within : (w : ℕ) (t : Trailing) (ns : List ℕ) → Accepted w t ns → total_size w t ns ≤ M w
total_within w t ns a =
    let pos : 0 < length ns = omega (arith, a.list.1.0) in
    let i : ℕ = length ns - 1 in
    let l : i < length ns = omega arith in
    let n = (a.counts i l).1.1.1.0 in
    let h : total_size w t (take (suc i) ns) ≤ M w = known (tells_le (total_size w t (take (suc i) ns)) (M w)) (λ g. n (inl (omega (arith, g)))) in
    subst (λ (z : List ℕ). total_size w t z ≤ M w) (take_all (suc i) ns (omega arith)) h

pub share_within : (w : ℕ) (t : Trailing) (ns : List ℕ) (r : Share) → 0 < w → Accepted w t ns → Shares w t ns r → Within w r
share_within w t ns r pos a x =
    let s = total_within w t ns a in
    let q = padding_within w t ns x.paddings x.each in
    let f = go s q x.padding in
    record {
      padding_numerator = f.0;
      padding_denominator = f.1;
      mean_numerator = omega (arith, s, (terms_within (omega (arith, a.list.1.0)) x.mean).0);
      greatest = omega (arith, s, q, sum_of x.paddings r.index, x.greatest.here);
    }
  where
    go : total_size w t ns ≤ M w → sum x.paddings ≤ total_size w t ns → Portion (sum x.paddings) (total_size w t ns) r.padding
        → (r.padding.numerator ≤ M w) × (r.padding.denominator ≤ M w)
    go s q (inl (e, f)) = let one : 2 ^ 1 ≤ 2 ^ w = pow_mono pos in (omega (arith, f.0), omega (arith, f.1, one))
    go s q (inr (n, l)) = let f = terms_within n l in (omega (arith, s, q, f.0), omega (arith, s, f.1))
