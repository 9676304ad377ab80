-- The greatest number of a list and its first index, as the fold finds them. Assumes nothing.
use mathlib.Core.Path.{◌≡◌, refl, sym, ap, ◌∙◌}
use mathlib.Core.Bool.{Bool, true, false, cond}
use mathlib.Core.List.{List, [], ◌∷◌, map}
use Prim.Native.Nat.{ℕ, zero, suc, ◌+◌, ◌≤◌, ◌<◌}
use native.Mathlib.Omega.{arith}
use borrow.Author.Tests.{ltb-true, ltb-false}
use lib.Dec.{ltb}
use lib.ListN.{length, get_or}
use Rattle.util_defs.specs.Refusal.{Tells, holds, fails}
use Rattle.util_defs.proofs.Refusals.{tells_lt}
use Rattle.trailing_defs.specs.Size.{Trailing, size_at}
use Rattle.share_defs.specs.Totals.{whole_padding, Totals, with_count}
use Rattle.share_defs.specs.Meaning.{FirstGreatest}
use Rattle.share_defs.proofs.Fold.{final}

-- what becomes of the greatest g, found at k, behind the numbers qs, of which the first has the index i: they leave it, or the first
-- greatest of them takes its place
pub data Ends (g k i : ℕ) (qs : List ℕ) (g' k' : ℕ) : Type 0 where
  kept : g' ≡ g → k' ≡ k → ((m : ℕ) → m < length qs → get_or qs m 0 ≤ g) → Ends g k i qs g' k'
  found : (j : ℕ) → j < length qs → k' ≡ i + j → get_or qs j 0 ≡ g' → g < g' → ((m : ℕ) → m < length qs → get_or qs m 0 ≤ g')
      → ((m : ℕ) → m < j → get_or qs m 0 < g') → Ends g k i qs g' k'

module _ (q : ℕ) (qs : List ℕ) (g : ℕ) where
  all_le : {n : ℕ} → q ≤ g → ((m : ℕ) → m < n → get_or qs m 0 ≤ g) → (m : ℕ) → m < suc n → get_or (q ∷ qs) m 0 ≤ g
  all_le h f zero l = h
  all_le h f (suc m) l = f m (omega arith)

  all_lt : {n : ℕ} → q < g → ((m : ℕ) → m < n → get_or qs m 0 < g) → (m : ℕ) → m < suc n → get_or (q ∷ qs) m 0 < g
  all_lt h f zero l = h
  all_lt h f (suc m) l = f m (omega arith)

ends_step : {g' k' : ℕ} (g k i q : ℕ) (qs : List ℕ) → Ends (cond (ltb g q) q g) (cond (ltb g q) i k) (suc i) qs g' k' → Ends g k i (q ∷ qs) g' k'
ends_step {g'} {k'} g k i q qs x = go (ltb g q) refl x
  where
    go : (b : Bool) → ltb g q ≡ b → Ends (cond b q g) (cond b i k) (suc i) qs g' k' → Ends g k i (q ∷ qs) g' k'
    go true e (kept a b f) =
        let l = ltb-true g q e in
        found 0 (omega arith) (omega arith) (sym a) (omega arith) (all_le q qs g' (omega arith) (λ m h. omega (arith, f m h))) (λ m h. absurd (omega arith))
    go true e (found j n a b c f h) =
        let l = ltb-true g q e in
        found (suc j) (omega arith) (omega arith) b (omega arith) (all_le q qs g' (omega arith) f) (all_lt q qs g' (omega arith) h)
    go false e (kept a b f) = kept a b (all_le q qs g (omega (arith, ltb-false g q e)) f)
    go false e (found j n a b c f h) =
        let l = ltb-false g q e in
        found (suc j) (omega arith) (omega arith) b c (all_le q qs g' (omega arith) f) (all_lt q qs g' (omega arith) h)

pub ends : (w : ℕ) (t : Trailing) (i : ℕ) (ns : List ℕ) (x : Totals)
    → Ends x.greatest x.index i (map (whole_padding w t) ns) (final w t i ns x).greatest (final w t i ns x).index
ends w t i [] x = kept refl refl (λ m h. absurd (omega arith))
ends w t i (n ∷ ns) x =
    ends_step x.greatest x.index i (whole_padding w t n) (map (whole_padding w t) ns) (ends w t (suc i) ns (with_count i (size_at w t n) (whole_padding w t n) x))

-- begun at 0 it is the first greatest of a list that is not empty
pub first_greatest : {g k : ℕ} (qs : List ℕ) → 0 < length qs → Ends 0 0 0 qs g k → FirstGreatest qs g k
first_greatest {g} {k} qs pos (kept a b f) = record {
  within = omega arith;
  here = ap (λ (z : ℕ). get_or qs z 0) b ∙ omega (arith, f 0 pos);
  greatest = λ j h. omega (arith, f j h);
  first = λ j h. absurd (omega arith);
}
first_greatest {g} {k} qs pos (found j n a b c f h) =
    let e : k ≡ j = omega arith in
    record {
      within = omega arith;
      here = ap (λ (z : ℕ). get_or qs z 0) e ∙ b;
      greatest = f;
      first = λ m l z. omega (arith, h m (omega arith));
    }

-- they are one number and one index
pub one_greatest : {q r i j : ℕ} (qs : List ℕ) → FirstGreatest qs q i → FirstGreatest qs r j → (q ≡ r) × (i ≡ j)
one_greatest {q} {r} {i} {j} qs x y = (same, place (tells_lt i j) (tells_lt j i))
  where
    same : q ≡ r
    same = omega (arith, x.here, y.here, x.greatest j y.within, y.greatest i x.within)

    place : {b c : Bool} → Tells (i < j) b → Tells (j < i) c → i ≡ j
    place (holds l) z = absurd (y.first i l (x.here ∙ same))
    place (fails f) (holds l) = absurd (x.first j l (y.here ∙ sym same))
    place (fails f) (fails h) = omega (arith, f, h)
