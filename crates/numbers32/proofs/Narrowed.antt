-- What `map` gives of an answer that is narrowed: its contract says that the narrowing ran, and a caller says what that gives, k.
-- Assumes nothing.
use Rattle.std.proofs.Common.{◌≡◌, ap, ◌∙◌, ℕ}
use Rattle.std.specs.Prelude.{Result, Ok, Err}
use Rattle.std.specs.Result.{MatchResult, IsOkAnd}
use Rattle.util.specs.View.{number_of, says, placed_says}
use Rattle.util_defs.specs.Placed.{Placed, reached, stopped}
use Rattle.util.specs.declared.refusal.RefusedAt.{RefusedAt}
use Rattle.util.specs.declared.refusal.Refusal.{Refusal}
use Rattle.util_defs.specs.Refusal.{answered}
use Rattle.widths_defs.specs.Low.{mapped}

pub narrowed : {T U A B : Type 0} (f : T → A) (g : U → B) (k : A → B) (r : Result T Refusal) (a : Result U Refusal) (Q : T → U → Type 0)
    → ((x : T) (y : U) → Q x y → g y ≡ k (f x)) → MatchResult r (λ x. IsOkAnd a (Q x)) (λ e. a ≡ Err e) → says g a ≡ mapped k (says f r)
narrowed f g k (Ok x) (Ok y) Q h m = ap answered (h x y m)
narrowed f g k (Ok x) (Err e) Q h m = absurd m
narrowed f g k (Err e) a Q h m = ap (says g) m

-- the same about a list, by what the narrowing K makes of a place
pub narrowed_at : {T U A B : Type 0} (f : T → A) (g : U → B) (K : Placed A → Placed B) (r : Result T (RefusedAt ℕ)) (a : Result U (RefusedAt ℕ)) (Q : T → U → Type 0)
    → ((x : T) (y : U) → Q x y → reached (g y) ≡ K (reached (f x))) → ((n i : ℕ) → stopped n i ≡ K (stopped n i))
    → MatchResult r (λ x. IsOkAnd a (Q x)) (λ e. a ≡ Err e) → placed_says g a ≡ K (placed_says f r)
narrowed_at f g K (Ok x) (Ok y) Q h s m = h x y m
narrowed_at f g K (Ok x) (Err e) Q h s m = absurd m
narrowed_at f g K (Err e) a Q h s m = ap (placed_says g) m ∙ s (number_of e.refusal) e.place
