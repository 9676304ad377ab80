-- What the answers of trailing layouts that are numbers tell their callers. Assumes nothing.
use mathlib.Core.Path.{◌≡◌, sym, ap, ◌∙◌, subst}
use mathlib.Core.Logic.{inl, inr}
use Prim.Native.Nat.{ℕ, ◌*◌, ◌/◌, ◌^◌, ◌≤◌, ◌<◌}
use native.Mathlib.Omega.{arith}
use Rattle.util_defs.specs.Refusal.{Outcome, First, Meets}
use Rattle.std.specs.Prelude.{Result, Ok, Err}
use Rattle.util.specs.View.{number_of, number_says}
use Rattle.util.specs.declared.refusal.Refusal.{Refusal}
use Rattle.util_defs.proofs.Refusals.{answered_means, refused_means}
use Rattle.trailing_defs.specs.Size.{Trailing, A, p, size_with, size_at, HasSize}
use Rattle.trailing_defs.specs.Count.{bytes_within, count_within}
use Rattle.trailing_defs.specs.Sized.{none_above, size_given}
use Rattle.trailing_defs.proofs.Sizes.{size_mono}
use Rattle.trailing_defs.proofs.Sized.{elem_some, given_above}
use Rattle.rounding.proofs.Words.{parts_of_lem}
use Rattle.util_defs.proofs.Powers.{positive}
use Rattle.util_defs.proofs.Tables.{told_by, answer_is}
use Rattle.util_defs.specs.Width.{M}
use Rattle.trailing_defs.specs.Calls.{max_trailing_causes, max_trailing_for, GreatestIn}
use Rattle.trailing_defs.proofs.Calls.{max_trailing_meets}

-- of `max_trailing_bytes`: the number is the greatest; refused, a layout whose word is not 0 has no size within the room
pub room_told : {m : ℕ} (w : ℕ) (t : Trailing) (L : ℕ) (r : Result ℕ Refusal) → t.word < 2 ^ w → number_says r ≡ max_trailing_for w t L → r ≡ Ok m → GreatestIn w t L m
room_told w t L r h e g =
    (answered_means (subst (λ (o : Outcome ℕ). Meets (max_trailing_causes w t L) (GreatestIn w t L) o) (sym e ∙ ap number_says g) (max_trailing_meets w t L h))).1

pub room_refused : {k : Refusal} (w : ℕ) (t : Trailing) (L : ℕ) (r : Result ℕ Refusal) → 0 < t.word → t.word < 2 ^ w → number_says r ≡ max_trailing_for w t L → r ≡ Err k
    → (x : ℕ) → size_with t.base (A w t) (p w t) x ≤ L → ⊥
room_refused {k} w t L r n h e g =
    go (refused_means (subst (λ (o : Outcome ℕ). Meets (max_trailing_causes w t L) (GreatestIn w t L) o) (sym e ∙ ap number_says g) (max_trailing_meets w t L h)))
  where
    go : First (max_trailing_causes w t L) (number_of k) → (x : ℕ) → size_with t.base (A w t) (p w t) x ≤ L → ⊥
    go (inl z) = absurd (omega (arith, z.0))
    go (inr (z, inl y)) = y.0
    go (inr (z, inr y)) = absurd y.1

-- what the room of M tells of a count without a size: the elements have one, and as many as the room holds is the greatest count
pub above_told : {m : ℕ} (w : ℕ) (t : Trailing) (n : ℕ) (r : Result ℕ Refusal) → 0 < t.word → t.word < 2 ^ w → number_says r ≡ max_trailing_for w t (M w) → r ≡ Ok m
    → M w < size_at w t n → (0 < t.elem) × (none_above (m / t.elem) ≡ size_given w t n)
unfolding max_trailing_for count_within
above_told {m} w t n r pos b e g l =
    let a = positive (parts_of_lem w t.word pos b).power in
    let i = answer_is (max_trailing_causes w t (M w)) (bytes_within t.base (A w t) (p w t) (M w)) (told_by number_says e g) in
    let f = (room_told w t (M w) r b e g).fits in
    let z : HasSize w t 0 = omega (arith, f, size_mono t.base (A w t) (p w t) (0 * t.elem) m a (omega arith)) in
    (elem_some w t n z l, ap (λ (x : ℕ). none_above (x / t.elem)) i ∙ sym (given_above w t n pos z l))
