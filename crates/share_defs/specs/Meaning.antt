-- What the padding over a list of counts means (document 02, request 12), and what it does not hang on. Assumes nothing.
use Rattle.std.specs.Prelude.{◌≡◌, ◌⊎◌, ℕ, ◌+◌, ◌≤◌, ◌<◌, length, get_or}
use mathlib.Core.List.{List, [], ◌∷◌, Perm}
use Rattle.util_defs.specs.Refusal.{None, First}
use Rattle.util_defs.specs.Placed.{Placed, reached, stopped}
use Rattle.trailing_defs.specs.Size.{Trailing, size_at}
use Rattle.gcd_defs.specs.Fraction.{Fraction, LowestTerms}
use Rattle.share_defs.specs.Totals.{end_at, sum, total_size, causes_at}
use Rattle.share_defs.specs.Share.{Share, list_causes, share_for}

-- qs are the paddings at the counts ns, one by one: each, with the end of the elements, makes the size
abbrev pub Paddings : ℕ → Trailing → List ℕ → List ℕ → Type 0
Paddings w t [] [] = Unit {0}
Paddings w t [] (q ∷ qs) = ⊥
Paddings w t (n ∷ ns) [] = ⊥
Paddings w t (n ∷ ns) (q ∷ qs) = (q + end_at t n ≡ size_at w t n) × Paddings w t ns qs

-- q is the greatest number of a list, and i its first index
pub record FirstGreatest (qs : List ℕ) (q i : ℕ) : Type 0 where
  pub within : i < length qs
  pub here : get_or qs i 0 ≡ q
  pub greatest : (j : ℕ) → j < length qs → get_or qs j 0 ≤ q
  pub first : (j : ℕ) → j < i → get_or qs j 0 ≡ q → ⊥

-- f is q over s in lowest terms, "0 over 1 for total 0"
abbrev pub Portion : (q s : ℕ) → Fraction → Type 0
Portion q s f = ((s ≡ 0) × ((f.numerator ≡ 0) × (f.denominator ≡ 1))) ⊎ ((0 < s) × LowestTerms q s f)

-- what is given of counts that are accepted
pub record Shares (w : ℕ) (t : Trailing) (ns : List ℕ) (r : Share) : Type 0 where
  pub paddings : List ℕ
  pub each : Paddings w t ns paddings
  pub padding : Portion (sum paddings) (total_size w t ns) r.padding
  pub mean : LowestTerms (total_size w t ns) (length ns) r.mean
  pub greatest : FirstGreatest paddings r.greatest r.index

-- counts are accepted where nothing refuses the list or any of them
pub record Accepted (w : ℕ) (t : Trailing) (ns : List ℕ) : Type 0 where
  pub list : None (list_causes t ns)
  pub counts : (i : ℕ) → i < length ns → None (causes_at w t ns i)

-- the count with the index i is the first that is refused, and k is its number
pub record StopsAt (w : ℕ) (t : Trailing) (ns : List ℕ) (k i : ℕ) : Type 0 where
  pub list : None (list_causes t ns)
  pub within : i < length ns
  pub before : (j : ℕ) → j < i → None (causes_at w t ns j)
  pub first : First (causes_at w t ns i) k

-- where a list is refused: at 0 by the layout or for its length, or at its first count that is refused
abbrev pub Stops : ℕ → Trailing → List ℕ → ℕ → ℕ → Type 0
Stops w t ns k i = (First (list_causes t ns) k × (i ≡ 0)) ⊎ StopsAt w t ns k i

-- what `padding_of_counts` gives, and what it refuses
abbrev pub ShareMeans : ℕ → Trailing → List ℕ → Placed Share → Type 0
ShareMeans w t ns (reached r) = Accepted w t ns × Shares w t ns r
ShareMeans w t ns (stopped k i) = Stops w t ns k i

-- "whose order, where accepted, alters only that index": any permutation of an accepted list is accepted and gives the same but
-- for the index (Perm is mathlib's)
pub record Alike (r s : Share) : Type 0 where
  pub padding : s.padding ≡ r.padding
  pub mean : s.mean ≡ r.mean
  pub greatest : s.greatest ≡ r.greatest

pub record Another (w : ℕ) (t : Trailing) (ms : List ℕ) (r : Share) : Type 0 where
  pub share : Share
  pub accepted : share_for w t ms ≡ reached share
  pub alike : Alike r share

abbrev pub OrderFree : ℕ → Type 0
OrderFree w =
    (t : Trailing) (ns ms : List ℕ) (r : Share) → Perm ns ms → share_for w t ns ≡ reached r → Another w t ms r

-- the total padding is at most the total size, so that 53 is always the sizes' sum
abbrev pub PaddingWithin : ℕ → Type 0
PaddingWithin w = (t : Trailing) (ns qs : List ℕ) → Paddings w t ns qs → sum qs ≤ total_size w t ns
