-- Paddings of counts, and counts that go through, at any width w. Assumes nothing.
use mathlib.Core.Path.{◌≡◌, refl, ap₂}
use mathlib.Core.List.{List, [], ◌∷◌, map}
use Prim.Native.Nat.{ℕ, zero, suc, ◌≤◌, ◌<◌}
use native.Mathlib.Omega.{arith}
use lib.ListN.{length, take, get_or}
use Rattle.util_defs.specs.Width.{M}
use Rattle.util_defs.specs.Refusal.{None}
use Rattle.util_defs.proofs.Refusals.{known, tells_le}
use Rattle.trailing_defs.specs.Size.{Trailing, size_at, HasSize}
use Rattle.share_defs.specs.Totals.{end_at, whole_padding, total_size, total_padding, count_causes, causes_at}
use Rattle.share_defs.specs.Meaning.{Paddings, PaddingWithin}

-- the total padding is at most the total size
pub padding_within : (w : ℕ) → PaddingWithin w
padding_within w t (n ∷ ns) [] x = elim x [ ]
padding_within w t [] (q ∷ qs) x = elim x [ ]
padding_within w t [] [] x = omega arith
padding_within w t (n ∷ ns) (q ∷ qs) x = omega (arith, x.0, padding_within w t ns qs x.1)

-- the paddings are one list
pub one_paddings : (w : ℕ) (t : Trailing) (ns qs rs : List ℕ) → Paddings w t ns qs → Paddings w t ns rs → qs ≡ rs
one_paddings w t (n ∷ ns) (q ∷ qs) [] x y = elim y [ ]
one_paddings w t (n ∷ ns) [] rs x y = elim x [ ]
one_paddings w t [] (q ∷ qs) rs x y = elim x [ ]
one_paddings w t [] [] (r ∷ rs) x y = elim y [ ]
one_paddings w t [] [] [] x y = refl
one_paddings w t (n ∷ ns) (q ∷ qs) (r ∷ rs) x y =
    ap₂ (λ (z : ℕ) (zs : List ℕ). z ∷ zs) (omega (arith, x.0, y.0)) (one_paddings w t ns qs rs x.1 y.1)

-- P of every number of a list, and of the one at an index
abbrev pub All : (ℕ → Type 0) → List ℕ → Type 0
All P [] = Unit {0}
All P (n ∷ ns) = P n × All P ns

pub all_from : (P : ℕ → Type 0) (ns : List ℕ) → ((j : ℕ) → j < length ns → P (get_or ns j 0)) → All P ns
all_from P [] f = tt
all_from P (n ∷ ns) f = (f 0 (omega arith), all_from P ns (λ j l. f (suc j) (omega arith)))

pub all_at : (P : ℕ → Type 0) (ns : List ℕ) → All P ns → (j : ℕ) → j < length ns → P (get_or ns j 0)
all_at P [] a j l = elim l [ ]
all_at P (n ∷ ns) a zero l = a.0
all_at P (n ∷ ns) a (suc j) l = all_at P ns a.1 j (omega arith)

module _ (w : ℕ) (t : Trailing) where
  -- a count has a size, and the end of its elements is not above it
  abbrev pub Fine : ℕ → Type 0
  Fine n = HasSize w t n × (end_at t n ≤ size_at w t n)

  pub fine : (n s q : ℕ) → None (count_causes w t n s q) → Fine n
  fine n s q h = (known (tells_le (size_at w t n) (M w)) h.1.0, omega (arith, h.1.1.0))

  pub accepted_fine : (ns : List ℕ) → ((i : ℕ) → i < length ns → None (causes_at w t ns i)) → All Fine ns
  accepted_fine ns f =
      all_from Fine ns (λ i l. fine (get_or ns i 0) (total_size w t (take (suc i) ns)) (total_padding w t (take (suc i) ns)) (f i l))

  -- then what the sizes are past the ends are the paddings
  pub paddings_are : (ns : List ℕ) → All Fine ns → Paddings w t ns (map (whole_padding w t) ns)
  paddings_are [] f = tt
  paddings_are (n ∷ ns) f = (omega (arith, f.0.1), paddings_are ns f.1)
