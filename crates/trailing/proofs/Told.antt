-- What the answers of trailing layouts tell their callers. Assumes nothing.
use Rattle.util.specs.declared.refusal.Refusal.{Refusal}
use Rattle.std.specs.Prelude.{Err, Ok, Result}
use Rattle.std.proofs.Common.{◌≡◌, ℕ, ◌+◌, ◌^◌, ◌<◌, ◌≤◌, Bool, sym, ◌∙◌, subst, inl, inr, arith}
use Rattle.util_defs.specs.Width.{M}
use Rattle.util_defs.specs.Refusal.{Outcome, Meets, Tells, holds, fails}
use Rattle.util_defs.proofs.Refusals.{answered_means, refused_means, known, clear, tells_eq, tells_le, tells_lt}
use Rattle.rounding.specs.Word.{word_causes}
use Rattle.util_defs.proofs.Tables.{told_by, apart, answer_is, accepted_none}
use Rattle.trailing_defs.specs.Size.{Trailing, size_at, HasSize, size_offset}
use Rattle.trailing_defs.specs.Calls.{advance_causes, advanced, advance_for}
use Rattle.trailing_defs.specs.Sized.{sized, none_above, refused_by, SizeMeans, has, above, refuses}
use Rattle.trailing_defs.proofs.Sizes.{count_mono}
use Rattle.util_defs.proofs.Powers.{positive}
use Rattle.rounding.proofs.Words.{parts_of_lem, word_refused}
use Rattle.trailing.specs.declared.Decoded.{Decoded}
use Rattle.trailing.specs.declared.SizeRefusal.{SizeRefusal}
use Rattle.trailing.specs.declared.SizeRefusal.TheVariants as Why
use Rattle.trailing.specs.View.{trailing_of, no_size_says, size_says, advance_says}
use Rattle.trailing.specs.declared.TrailingSliceLayout.{TrailingSliceLayout}
use Rattle.std.specs.Result.{IsErrAnd}
use Rattle.std.proofs.lemmas.Result.{err_from_is_err_and}
use Rattle.util.specs.View.{number_of, says}
use Rattle.std.proofs.Common.{ap}
use Rattle.trailing_defs.specs.Sized.{SizeOutcome}

-- the layout that was decoded
abbrev decoded_layout : Result Decoded Refusal → Outcome (TrailingSliceLayout ℕ)
decoded_layout = says (λ d. d.layout)

-- of `decoded`: that layout; refused, its word is 0
pub decoded_told : {n : ℕ} {l : TrailingSliceLayout ℕ} {d : Decoded} (r : Result Decoded Refusal) → Meets (word_causes n) (λ x. x ≡ l) (decoded_layout r) → r ≡ Ok d → d.layout ≡ l
decoded_told {n} {l} r m e = (answered_means (subst (λ (x : Result Decoded Refusal). Meets (word_causes n) (λ x. x ≡ l) (decoded_layout x)) e m)).1

pub decoded_refused : {n : ℕ} {l : TrailingSliceLayout ℕ} {k : Refusal} (r : Result Decoded Refusal) → Meets (word_causes n) (λ x. x ≡ l) (decoded_layout r) → r ≡ Err k
    → (n ≡ 0) × (number_of k ≡ 2)
decoded_refused {n} {l} r m e = word_refused (refused_means (subst (λ (x : Result Decoded Refusal). Meets (word_causes n) (λ x. x ≡ l) (decoded_layout x)) e m))

-- of `size_for_elems`: the size, which exists; by either other answer a layout whose word is not 0 has none
pub size_told : {s : ℕ} (w : ℕ) (t : Trailing) (n : ℕ) (r : Result ℕ (SizeRefusal ℕ)) → SizeMeans w t n (size_says r) → r ≡ Ok s
    → HasSize w t n × (s ≡ size_at w t n)
size_told w t n r m g = go (subst (λ (x : Result ℕ (SizeRefusal ℕ)). SizeMeans w t n (size_says x)) g m)
  where
    go : {s : ℕ} → SizeMeans w t n (sized s) → HasSize w t n × (s ≡ size_at w t n)
    go (has x e) = (known (tells_le (size_at w t n) (M w)) x.1.1.0, e)

size_above : {g : ℕ} (w : ℕ) (t : Trailing) (n : ℕ) (r : Result ℕ (SizeRefusal ℕ)) → SizeMeans w t n (size_says r) → r ≡ Err (Why.NoSize g) → M w < size_at w t n
size_above w t n r m g = go (subst (λ (x : Result ℕ (SizeRefusal ℕ)). SizeMeans w t n (size_says x)) g m)
  where
    go : {g : ℕ} → SizeMeans w t n (none_above g) → M w < size_at w t n
    go (above f x) = let no : size_at w t n ≤ M w → ⊥ = λ h. omega (arith, x.greatest.greatest n h, x.below) in omega (arith, no)

size_missing : {k : Refusal} (w : ℕ) (t : Trailing) (n : ℕ) (r : Result ℕ (SizeRefusal ℕ)) → 0 < t.word → t.word < 2 ^ w → SizeMeans w t n (size_says r)
    → r ≡ Err (Why.Refused k) → M w < size_at w t n
size_missing w t n r p h m g = go (subst (λ (x : Result ℕ (SizeRefusal ℕ)). SizeMeans w t n (size_says x)) g m)
  where
    go : {k : ℕ} → SizeMeans w t n (refused_by k) → M w < size_at w t n
    go (refuses (inl z) _) = absurd (omega (arith, z.0))
    go (refuses (inr (z, inl y)) _) = omega (arith, y.0, count_mono w t 0 n (positive (parts_of_lem w t.word p h).power) (omega arith))
    go (refuses (inr (z, inr (x, inl y))) _) = omega (arith, y.0)
    go (refuses (inr (z, inr (x, inr y))) _) = absurd y.1

-- so it is by any answer but a size
pub size_not : {k : SizeRefusal ℕ} (w : ℕ) (t : Trailing) (n : ℕ) (r : Result ℕ (SizeRefusal ℕ)) → 0 < t.word → t.word < 2 ^ w → SizeMeans w t n (size_says r)
    → r ≡ Err k → M w < size_at w t n
size_not {k} w t n r p h m e = go k e
  where
    go : (k : SizeRefusal ℕ) → r ≡ Err k → M w < size_at w t n
    go (Why.NoSize g) e = size_above w t n r m e
    go (Why.Refused j) e = size_missing w t n r p h m e

-- a refusal that is handed on
pub size_handed_on : {o : SizeOutcome} (r : Result ℕ (SizeRefusal ℕ)) (k : Refusal) → IsErrAnd r (λ e. e ≡ Why.Refused k) → refused_by (number_of k) ≡ o → size_says r ≡ o
size_handed_on r k h x = let p = err_from_is_err_and r h in ap size_says p.1 ∙ (ap no_size_says p.2 ∙ x)

-- of `advance`: the advanced layout; refused, a layout whose word is not 0 was taken past M
pub advance_told : {m : TrailingSliceLayout ℕ} (w : ℕ) (t : Trailing) (y e : ℕ) (r : Result (TrailingSliceLayout ℕ) Refusal) → advance_says r ≡ advance_for w t y e → r ≡ Ok m
    → (trailing_of m ≡ advanced w t y e) × (size_offset w t + y ≤ M w)
unfolding advance_for
advance_told w t y e r i g =
    let o = told_by advance_says i g in
    let n = accepted_none (advance_causes w t y) (advanced w t y e) (tells_eq t.word 0, λ _. (tells_lt (M w) (size_offset w t + y), λ _. tt)) o in
    (answer_is (advance_causes w t y) (advanced w t y e) o, omega (arith, n.1.0))

pub advance_missing : {k : Refusal} (w : ℕ) (t : Trailing) (y e : ℕ) (r : Result (TrailingSliceLayout ℕ) Refusal) → 0 < t.word → advance_says r ≡ advance_for w t y e → r ≡ Err k → M w < size_offset w t + y
unfolding advance_for
advance_missing {k} w t y e r p i g = go (tells_lt (M w) (size_offset w t + y))
  where
    go : {b : Bool} → Tells (M w < size_offset w t + y) b → M w < size_offset w t + y
    go (holds l) = l
    go (fails n) =
        absurd (apart (sym (told_by advance_says i g)
        ∙ clear (advance_causes w t y) (tells_eq t.word 0, λ _. (tells_lt (M w) (size_offset w t + y), λ _. tt)) ((λ z. omega arith), (n, tt))))
