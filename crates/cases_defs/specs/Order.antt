-- What it means that all short member lists are there: "Nothing is missing or occurs twice", in the order that is said. Assumes
-- nothing.
use Rattle.std.specs.Prelude.{◌≡◌, ℕ, ◌≤◌, ◌<◌, length}
use mathlib.Core.List.{List, [], ◌∷◌, Memᴰ}
use Rattle.cases_defs.specs.Cases.{Case, scalars, packings}

-- a case of up to n members: each is one of the four, and the packing one of the five
pub record IsCase (n : ℕ) (c : Case) : Type 0 where
  pub short : length c.codes ≤ n
  pub scalar : (x : ℕ) → Memᴰ x c.codes → Memᴰ x scalars
  pub under : Memᴰ c.packing packings

-- "by code from the left": at the first place at which two lists of one length differ, the lower code
pub data FromLeft : List ℕ → List ℕ → Type 0 where
  lower : {c d : ℕ} {cs ds : List ℕ} → c < d → length cs ≡ length ds → FromLeft (c ∷ cs) (d ∷ ds)
  alike : {c d : ℕ} {cs ds : List ℕ} → c ≡ d → FromLeft cs ds → FromLeft (c ∷ cs) (d ∷ ds)

-- "Shorter lists come first, then by code from the left, then by packing", none being 0
pub data Before (c d : Case) : Type 0 where
  shorter : length c.codes < length d.codes → Before c d
  by_code : FromLeft c.codes d.codes → Before c d
  by_packing : c.codes ≡ d.codes → c.packing < d.packing → Before c d

-- each stands before all that are behind it; none stands among those behind it
abbrev pub Ordered : {T : Type 0} → (T → T → Type 0) → List T → Type 0
Ordered R [] = Unit {0}
Ordered {T} R (x ∷ xs) = ((y : T) → Memᴰ y xs → R x y) × Ordered R xs

abbrev pub NoneTwice : {T : Type 0} → List T → Type 0
NoneTwice [] = Unit {0}
NoneTwice (x ∷ xs) = (Memᴰ x xs → ⊥) × NoneTwice xs

-- every case of up to n members, none else, none twice, in order
pub record AllCases (n : ℕ) (cs : List Case) : Type 0 where
  pub only : (c : Case) → Memᴰ c cs → IsCase n c
  pub complete : (c : Case) → IsCase n c → Memᴰ c cs
  pub once : NoneTwice cs
  pub ordered : Ordered Before cs
