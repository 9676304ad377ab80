-- `size_for_elems` (document 02, request 5): with 15 comes the greatest count that has a size. Assumes nothing.
use Rattle.std.specs.Prelude.{◌≡◌, cond, List, [], ◌∷◌, ℕ, ◌<◌, eqb}
use Rattle.util_defs.specs.Width.{M}
use Rattle.util_defs.specs.Refusal.{Outcome, answered, refused, None, First}
use Rattle.trailing_defs.specs.Size.{Trailing, size_at}
use Rattle.trailing_defs.specs.Count.{GreatestCount, count_within}
use Rattle.trailing_defs.specs.Calls.{size_causes, size_for}

-- what it gives: the size; 15 with the greatest count that has a size; or another refusal by its number alone
pub data SizeOutcome : Type 0 where
  sized : (size : ℕ) → SizeOutcome
  none_above : (greatest : ℕ) → SizeOutcome
  refused_by : (number : ℕ) → SizeOutcome

-- document 02's number of each case, 0 for a size, and what comes with it
abbrev pub size_numbers : SizeOutcome → List ℕ
size_numbers (sized s) = 0 ∷ s ∷ []
size_numbers (none_above g) = 15 ∷ g ∷ []
size_numbers (refused_by k) = k ∷ []

-- by the number of a refusal: with 15 comes the count g
abbrev pub with_greatest : ℕ → Outcome ℕ → SizeOutcome
with_greatest g (answered s) = sized s
with_greatest g (refused k) = cond (eqb k 15) (none_above g) (refused_by k)

-- the greatest count is that of a cast, the limit being M
unfoldable pub size_given : ℕ → Trailing → ℕ → SizeOutcome
size_given w t n = with_greatest (count_within w t (M w)) (size_for w t n)

-- g is the greatest count that has a size, and is below the count asked for
pub record Most (w : ℕ) (t : Trailing) (n g : ℕ) : Type 0 where
  pub greatest : GreatestCount w t (M w) g
  pub below : g < n

-- what it means: no cause holds and it is the size; 15 is the first that holds and the count is that one; another is the first
pub data SizeMeans (w : ℕ) (t : Trailing) (n : ℕ) : SizeOutcome → Type 0 where
  has : {s : ℕ} → None (size_causes w t n) → s ≡ size_at w t n → SizeMeans w t n (sized s)
  above : {g : ℕ} → First (size_causes w t n) 15 → Most w t n g → SizeMeans w t n (none_above g)
  refuses : {k : ℕ} → First (size_causes w t n) k → (k ≡ 15 → ⊥) → SizeMeans w t n (refused_by k)
