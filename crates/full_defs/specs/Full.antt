-- The full comparison of sizes (document 02, request 9): yes exactly when two layouts have equal sizes at every count, as
-- unlimited whole numbers. Assumes nothing.
use Rattle.std.specs.Prelude.{◌≡◌, Bool, true, cond, ◌&&◌, ℕ, zero, suc, ◌%◌, ◌^◌, eqb}
use Rattle.util_defs.specs.Round.{up}
use Rattle.util_defs.specs.Refusal.{Outcome, unless}
use Rattle.trailing_defs.specs.Size.{Trailing, A, p, size_at}
use Rattle.trailing_defs.specs.Sequence.{EqualSizes, same_stride}
use Rattle.trailing_defs.specs.Calls.{same_causes}

-- the lowest one bit of a number of w bits: the greatest of 2 ^ (w - 1), .., 2, 1 that divides it
unfoldable pub lowest_bit : ℕ → ℕ → ℕ
lowest_bit zero n = 1
lowest_bit (suc k) n = cond (eqb (n % 2 ^ k) 0) (2 ^ k) (lowest_bit k n)

-- the phase as sizes with elements of e bytes see it: rounded up to the lowest one bit of e, modulo A. Phases that are seen
-- alike, at an A that does not divide e, give the same steps from size to size
abbrev pub seen_phase : ℕ → (e A p : ℕ) → ℕ
seen_phase w e A p = up p (lowest_bit w e) % A

-- the element sizes are equal, the sizes at 0 are, whether or not w bits hold them, and e is a multiple of the larger A, or both
-- A and both phases, as the sizes see them, are equal (`tells_sizes`: this is equal sizes at every count)
unfoldable pub sizes_agree : ℕ → Trailing → Trailing → Bool
sizes_agree w s t =
    eqb s.elem t.elem
    && (eqb (size_at w s 0) (size_at w t 0)
    && same_stride s.elem (A w s) (seen_phase w s.elem (A w s) (p w s)) (A w t) (seen_phase w s.elem (A w t) (p w t)))

-- `sizes_agree`: the first layout's 2, then the second's
unfoldable pub agree_for : ℕ → Trailing → Trailing → Outcome Bool
agree_for w s t = unless (same_causes s t) (sizes_agree w s t)

-- what its answer means: yes exactly when the sizes are equal at every count
pub record FoundEqual (w : ℕ) (s t : Trailing) (r : Bool) : Type 0 where
  pub means : r ≡ true → EqualSizes w s t
  pub needed : EqualSizes w s t → r ≡ true
