-- What the answers of compositions tell their callers. Assumes nothing.
use Rattle.std.proofs.Common.{◌≡◌, ℕ, ap, ◌∙◌}
use Rattle.std.specs.Prelude.{Result, Ok, Err}
use Rattle.std.specs.Result.{MatchResult, IsErrAnd}
use Rattle.std.proofs.lemmas.Result.{err_from_is_err_and}
use Rattle.util.specs.View.{number_of, says}
use Rattle.util.specs.declared.refusal.Refusal.{Refusal}
use Rattle.util.specs.declared.refusal.RefusedAt.{RefusedAt}
use Rattle.layout_defs.specs.Layout.{Layout}
use Rattle.layout.specs.declared.DstLayout.{DstLayout}
use Rattle.compose_defs.specs.Compose.{Composed, refused_at, composed, and_then}
use Rattle.compose.specs.View.{composed_says}

-- a refusal that is handed on is the outcome that the callee's refusal is
pub composed_on : {N : Type 0} {o : Composed} (f : DstLayout N → Layout) (r : Result (DstLayout N) (RefusedAt ℕ)) (k : RefusedAt ℕ) → IsErrAnd r (λ e. e ≡ k)
    → refused_at (number_of k.refusal) k.place ≡ o → composed_says f r ≡ o
composed_on f r k h x = let p = err_from_is_err_and r h in ap (composed_says f) p.1 ∙ (ap (λ e. refused_at (number_of e.refusal) e.place) p.2 ∙ x)

-- a result whose refusal is given a place is the composition that goes on with it
pub placed_on : {N : Type 0} (f : DstLayout N → Layout) (r : Result (DstLayout N) Refusal) (a : Result (DstLayout N) (RefusedAt ℕ)) (i : ℕ)
    → MatchResult r (λ y. a ≡ Ok y) (λ e. a ≡ Err (record { refusal = e; place = i })) → composed_says f a ≡ and_then (says f r) i composed
placed_on f (Ok y) a i m = ap (composed_says f) m
placed_on f (Err e) a i m = ap (composed_says f) m
