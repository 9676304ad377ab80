-- What `map_err` gives, by what it was called on: its contract says that the closure ran, and a caller says what that gives, f.
-- Assumes nothing.
use Rattle.std.proofs.Common.{◌≡◌, refl, sym, ap, subst, ◌∙◌, ℕ, arith}
use Rattle.std.specs.Prelude.{Result, Ok, Err}
use Rattle.std.specs.Result.{MatchResult, IsErrAnd}
use Rattle.std.proofs.lemmas.Result.{err_from_is_err_and}

module _ {T E D : Type 0} (r : Result T E) (a : Result T D) (Q : E → D → Type 0) where
  -- an answer stays
  pub mapped_ok : {x : T} → MatchResult r (λ y. a ≡ Ok y) (λ e. IsErrAnd a (Q e)) → a ≡ Ok x → r ≡ Ok x
  mapped_ok {x} m h = go r m
    where
      go : (r : Result T E) → MatchResult r (λ y. a ≡ Ok y) (λ e. IsErrAnd a (Q e)) → r ≡ Ok x
      go (Ok y) m = let s : ◌≡◌ {A = Result T D} (Ok y) (Ok x) = sym m ∙ h in cc
      go (Err e) m = absurd (subst (λ a. IsErrAnd a (Q e)) h m)

  -- an error is that of the call, by f
  pub mapped_err : {d : D} (f : E → D) → ((e : E) → Q e d → d ≡ f e) → MatchResult r (λ y. a ≡ Ok y) (λ e. IsErrAnd a (Q e)) → a ≡ Err d
      → (e : E) × (r ≡ Err e) × (d ≡ f e)
  mapped_err {d} f g m h = go r m
    where
      go : (r : Result T E) → MatchResult r (λ y. a ≡ Ok y) (λ e. IsErrAnd a (Q e)) → (e : E) × (r ≡ Err e) × (d ≡ f e)
      go (Ok y) m = let s : ◌≡◌ {A = Result T D} (Ok y) (Err d) = sym m ∙ h in let z : ◌≡◌ {A = ℕ} 0 1 = cc in absurd (omega arith)
      go (Err e) m = (e, refl, g e (subst (λ a. IsErrAnd a (Q e)) h m))

  -- both at once, where the result is returned as it is
  pub mapped : (f : E → D) → ((e : E) (d : D) → Q e d → d ≡ f e) → MatchResult r (λ y. a ≡ Ok y) (λ e. IsErrAnd a (Q e))
      → MatchResult r (λ y. a ≡ Ok y) (λ e. a ≡ Err (f e))
  mapped f g m = go r m
    where
      go : (r : Result T E) → MatchResult r (λ y. a ≡ Ok y) (λ e. IsErrAnd a (Q e)) → MatchResult r (λ y. a ≡ Ok y) (λ e. a ≡ Err (f e))
      go (Ok y) m = m
      go (Err e) m = let p = err_from_is_err_and a m in p.1 ∙ ap Err (g e p.0 p.2)
