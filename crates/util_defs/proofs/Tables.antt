-- Laws of refusal tables: one table for two answers, and two tables one after the other. Assumes nothing.
use mathlib.Core.Path.{◌≡◌, refl, sym, subst, ap, ◌∙◌}
use mathlib.Core.Bool.{Bool, true, false, cond}
use mathlib.Core.List.{List, [], ◌∷◌, ◌++◌}
use mathlib.Core.Logic.{◌⊎◌, inl, inr, ⊎_elim}
use Prim.Native.Nat.{ℕ}
use native.Mathlib.Omega.{arith}
use Rattle.util_defs.specs.Refusal.{Outcome, answered, refused, Cause, unless, Tells, holds, fails, None, First, Decided}

-- what an answer that a match found says is the outcome
pub told_by : {R T : Type 0} (says : R → Outcome T) {r s : R} {o : Outcome T} → says r ≡ o → r ≡ s → o ≡ says s
told_by says e g = sym e ∙ ap says g

-- a refusal is no answer
pub apart : {T : Type 0} {x : T} {k : ℕ} → refused k ≡ answered x → ⊥
apart {T} {x} {k} e = let z : ◌≡◌ {A = ℕ} 0 1 = cc in omega arith

-- one test before the rest of a table: what the rest gives for one answer it gives for the other
refused_step : {S T : Type 0} (b : Bool) (n k : ℕ) (r : Outcome S) (s : Outcome T) → (r ≡ refused k → s ≡ refused k)
    → cond b (refused n) r ≡ refused k → cond b (refused n) s ≡ refused k
refused_step true n k r s f e = let i : n ≡ k = cc in ap refused i
refused_step false n k r s f e = f e

accepted_step : {S T : Type 0} (b : Bool) (n : ℕ) (z : S) (r : Outcome S) (s t : Outcome T) → (r ≡ answered z → s ≡ t)
    → cond b (refused n) r ≡ answered z → cond b (refused n) s ≡ t
accepted_step true n z r s t f e = absurd (apart e)
accepted_step false n z r s t f e = f e

-- what a table refuses of one answer it refuses of another
pub refused_as : {S T : Type 0} (cs : List Cause) (y : S) (x : T) {k : ℕ} → unless cs y ≡ refused k → unless cs x ≡ refused k
unfolding unless
refused_as [] y x e = absurd (apart (sym e))
refused_as (c ∷ cs) y x {k} e = refused_step c.test c.number k (unless cs y) (unless cs x) (refused_as cs y x) e

-- where it refuses nothing, the answer is what was asked for, and so for another
pub answer_is : {T : Type 0} (cs : List Cause) (y : T) {z : T} → unless cs y ≡ answered z → z ≡ y
unfolding unless
answer_is [] y e = cc
answer_is {T} (c ∷ cs) y {z} e = go c.test e (answer_is cs y)
  where
    go : (b : Bool) → cond b (refused c.number) (unless cs y) ≡ answered z → (unless cs y ≡ answered z → z ≡ y) → z ≡ y
    go true e f = absurd (apart e)
    go false e f = f e

pub accepted_as : {S T : Type 0} (cs : List Cause) (y : S) (x : T) {z : S} → unless cs y ≡ answered z → unless cs x ≡ answered x
unfolding unless
accepted_as [] y x e = refl
accepted_as (c ∷ cs) y x {z} e = accepted_step c.test c.number z (unless cs y) (unless cs x) (answered x) (accepted_as cs y x) e

-- where another table follows: the first's refusal, or what the second gives
pub refused_first : {S T : Type 0} (cs ds : List Cause) (y : S) (x : T) {k : ℕ} → unless cs y ≡ refused k → unless (cs ++ ds) x ≡ refused k
unfolding unless
refused_first [] ds y x e = absurd (apart (sym e))
refused_first (c ∷ cs) ds y x {k} e = refused_step c.test c.number k (unless cs y) (unless (cs ++ ds) x) (refused_first cs ds y x) e

pub accepted_first : {S T : Type 0} (cs ds : List Cause) (y : S) (x : T) {z : S} → unless cs y ≡ answered z → unless (cs ++ ds) x ≡ unless ds x
unfolding unless
accepted_first [] ds y x e = refl
accepted_first (c ∷ cs) ds y x {z} e =
    accepted_step c.test c.number z (unless cs y) (unless (cs ++ ds) x) (unless ds x) (accepted_first cs ds y x) e

-- no cause of either table holds
pub none_both : (cs ds : List Cause) → None (cs ++ ds) → None cs × None ds
none_both [] ds n = (tt, n)
none_both (c ∷ cs) ds n = let m = none_both cs ds n.1 in ((n.0, m.0), m.1)

pub both_none : (cs ds : List Cause) → None cs → None ds → None (cs ++ ds)
both_none [] ds n m = m
both_none (c ∷ cs) ds n m = (n.0, both_none cs ds n.1 m)

-- the tests of both tables decide, where no cause of the first holds before the second
pub decided_both : (cs ds : List Cause) → Decided cs → (None cs → Decided ds) → Decided (cs ++ ds)
decided_both [] ds d f = f tt
decided_both (c ∷ cs) ds d f = (d.0, λ n. decided_both cs ds (d.1 n) (λ m. f (n, m)))

-- where the tests decide and nothing is refused, no cause holds
none_step : {T : Type 0} (c : Cause) (cs : List Cause) (r : Outcome T) {z : T} {b : Bool} → Tells c.means b
    → ((c.means → ⊥) → r ≡ answered z → None cs) → cond b (refused c.number) r ≡ answered z → None (c ∷ cs)
none_step c cs r (holds p) f e = absurd (apart e)
none_step c cs r (fails n) f e = (n, f n e)

pub accepted_none : {T : Type 0} (cs : List Cause) (y : T) {z : T} → Decided cs → unless cs y ≡ answered z → None cs
unfolding unless
accepted_none [] y d e = tt
accepted_none (c ∷ cs) y d e = none_step c cs (unless cs y) d.0 (λ n. accepted_none cs y (d.1 n)) e

-- the first cause of two tables is one of the first, or none of the first holds and it is one of the second
pub first_both : (cs ds : List Cause) (k : ℕ) → First (cs ++ ds) k → First cs k ⊎ (None cs × First ds k)
first_both [] ds k f = inr (tt, f)
first_both (c ∷ cs) ds k (inl h) = inl (inl h)
first_both (c ∷ cs) ds k (inr (n, f)) = ⊎_elim (λ x. inl (inr (n, x))) (λ x. inr ((n, x.0), x.1)) (first_both cs ds k f)

-- what is so of every number of a table is so of the one that refuses
abbrev pub Numbers : (ℕ → Type 0) → List Cause → Type 0
Numbers P [] = Unit {0}
Numbers P (c ∷ cs) = P c.number × Numbers P cs

pub number_among : (P : ℕ → Type 0) (cs : List Cause) (k : ℕ) → Numbers P cs → First cs k → P k
number_among P [] k n z2 = elim z2 [ ]
number_among P (c ∷ cs) k n (inl (x, e)) = subst P (sym e) n.0
number_among P (c ∷ cs) k n (inr (x, f)) = number_among P cs k n.1 f

-- where nothing is refused no test applies, whether or not it decides
abbrev pub Passed : List Cause → Type 0
Passed [] = Unit {0}
Passed (c ∷ cs) = (c.test ≡ false) × Passed cs

pub passed : {T : Type 0} (cs : List Cause) (y : T) {z : T} → unless cs y ≡ answered z → Passed cs
unfolding unless
passed [] y e = tt
passed {T} (c ∷ cs) y {z} e = go c.test refl e (passed cs y)
  where
    go : (b : Bool) → c.test ≡ b → cond b (refused c.number) (unless cs y) ≡ answered z → (unless cs y ≡ answered z → Passed cs) → Passed (c ∷ cs)
    go true t e f = absurd (apart e)
    go false t e f = (t, f e)

pub passed_both : (cs ds : List Cause) → Passed (cs ++ ds) → Passed cs × Passed ds
passed_both [] ds x = (tt, x)
passed_both (c ∷ cs) ds x = let y = passed_both cs ds x.1 in ((x.0, y.0), y.1)

-- and where no test applies nothing is refused
pub passes : {T : Type 0} (cs : List Cause) (x : T) → Passed cs → unless cs x ≡ answered x
unfolding unless
passes [] x p = refl
passes (c ∷ cs) x p = ap (λ (b : Bool). cond b (refused c.number) (unless cs x)) p.0 ∙ passes cs x p.1

pub both_passed : (cs ds : List Cause) → Passed cs → Passed ds → Passed (cs ++ ds)
both_passed [] ds x y = y
both_passed (c ∷ cs) ds x y = (x.0, both_passed cs ds x.1 y)
