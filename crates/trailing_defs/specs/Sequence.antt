-- The sizes of two trailing layouts compared at every count. Assumes nothing.
use Rattle.std.specs.Prelude.{◌≡◌, Bool, ◌&&◌, ◌||◌, ◌⊎◌, ℕ, ◌%◌, max, eqb, leb}
use Rattle.util_defs.specs.Width.{M}
use Rattle.trailing_defs.specs.Size.{Trailing, A, p, size_at, HasSize}

-- equal sizes at every count
abbrev pub EqualSizes : ℕ → Trailing → Trailing → Type 0
EqualSizes w s t = (n : ℕ) → size_at w s n ≡ size_at w t n

-- e is a multiple of the larger A, or both A and p are equal
abbrev pub SameStride : (e A p B q : ℕ) → Type 0
SameStride e A p B q = (e % max A B ≡ 0) ⊎ ((A ≡ B) × (p ≡ q))

abbrev pub same_stride : (e A p B q : ℕ) → Bool
same_stride e A p B q = eqb (e % max A B) 0 || (eqb A B && eqb p q)

-- both sizes at 0 exist and are equal
abbrev pub SameStart : ℕ → Trailing → Trailing → Type 0
SameStart w s t = HasSize w s 0 × (HasSize w t 0 × (size_at w s 0 ≡ size_at w t 0))

abbrev pub same_start : ℕ → Trailing → Trailing → Bool
same_start w s t = leb (size_at w s 0) (M w) && (leb (size_at w t 0) (M w) && eqb (size_at w s 0) (size_at w t 0))

-- the condition under which two layouts are found to have the same sizes: it is enough for equal sizes at every count
-- (`same_sizes`), and not needed for them
pub record SameSequence (w : ℕ) (s t : Trailing) : Type 0 where
  pub elems : s.elem ≡ t.elem
  pub start : SameStart w s t
  pub stride : SameStride s.elem (A w s) (p w s) (A w t) (p w t)

unfoldable pub same_sequence : ℕ → Trailing → Trailing → Bool
same_sequence w s t = eqb s.elem t.elem && (same_start w s t && same_stride s.elem (A w s) (p w s) (A w t) (p w t))
