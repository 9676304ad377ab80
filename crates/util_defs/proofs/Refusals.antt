-- Laws of refusal tables. Assumes nothing.
use mathlib.Core.Path.{◌≡◌, refl, sym, subst, ap, ◌∙◌}
use mathlib.Core.Bool.{Bool, true, false, cond, not, ◌&&◌, ◌||◌}
use mathlib.Core.List.{List, [], ◌∷◌}
use mathlib.Core.Logic.{◌⊎◌, inl, inr, ⊎_elim}
use Prim.Native.Nat.{ℕ, suc, ◌≤◌, ◌<◌}
use lib.Dec.{eqb, leb, ltb}
use borrow.Author.Tests.{eqb-true, eqb-false, leb-true, leb-false}
use native.Mathlib.Omega.{arith}
use Rattle.util_defs.specs.Refusal.{Outcome, answered, refused, Cause, unless, Tells, holds, fails, None, First, Meets, answers, refuses, Decided}

-- a decided test that came out true, or false
pub yes : {P : Type 0} {b : Bool} → Tells P b → b ≡ true → P
yes (holds p) e = p
yes (fails n) e = let z : ◌≡◌ {A = ℕ} 0 1 = cc in absurd (omega arith)

pub no : {P : Type 0} {b : Bool} → Tells P b → b ≡ false → P → ⊥
no (holds p) e = let z : ◌≡◌ {A = ℕ} 0 1 = cc in absurd (omega arith)
no (fails n) e = n

-- what a test answers of a statement that holds, or does not
pub told_true : {P : Type 0} {b : Bool} → Tells P b → P → b ≡ true
told_true (holds p) q = refl
told_true (fails n) q = absurd (n q)

pub told_false : {P : Type 0} {b : Bool} → Tells P b → (P → ⊥) → b ≡ false
told_false (holds p) m = absurd (m p)
told_false (fails n) m = refl

-- what is decided, and not not so, is so
pub known : {P : Type 0} {b : Bool} → Tells P b → ((P → ⊥) → ⊥) → P
known (holds p) f = p
known (fails n) f = absurd (f n)

-- two tests that decide one statement agree
pub agree : {P : Type 0} {s t : Bool} → Tells P s → Tells P t → s ≡ t
agree (holds p) y = sym (told_true y p)
agree (fails n) y = sym (told_false y n)

-- the tests of numbers decide what they say; a test turned round decides the contrary
pub tells_eq : (a b : ℕ) → Tells (a ≡ b) (eqb a b)
tells_eq a b = go (eqb a b) refl
  where
    go : (t : Bool) → eqb a b ≡ t → Tells (a ≡ b) t
    go true e = holds (eqb-true a b e)
    go false e = fails (eqb-false a b e)

pub tells_le : (a b : ℕ) → Tells (a ≤ b) (leb a b)
tells_le a b = go (leb a b) refl
  where
    go : (t : Bool) → leb a b ≡ t → Tells (a ≤ b) t
    go true e = holds (leb-true a b e)
    go false e = fails (λ h. omega (arith, leb-false a b e))

pub tells_lt : (a b : ℕ) → Tells (a < b) (ltb a b)
tells_lt a b = tells_le (suc a) b

pub tells_not : {P : Type 0} {b : Bool} → Tells P b → Tells (P → ⊥) (not b)
tells_not (holds p) = fails (λ n. n p)
tells_not (fails n) = holds n

-- a Bool tells whether it is true
pub tells_true : (b : Bool) → Tells (b ≡ true) b
tells_true true = holds refl
tells_true false = fails (λ e. let z : ◌≡◌ {A = ℕ} 0 1 = cc in omega arith)

-- a test decides whatever its statement is the same as
pub tells_as : {P Q : Type 0} {b : Bool} → (P → Q) → (Q → P) → Tells P b → Tells Q b
tells_as f g (holds p) = holds (f p)
tells_as f g (fails n) = fails (λ q. n (g q))

-- both of two; one of two
pub tells_and : {P Q : Type 0} {s t : Bool} → Tells P s → Tells Q t → Tells (P × Q) (s && t)
tells_and (holds p) (holds q) = holds (p, q)
tells_and (holds p) (fails n) = fails (λ x. n x.1)
tells_and (fails n) y = fails (λ x. n x.0)

pub tells_or : {P Q : Type 0} {s t : Bool} → Tells P s → Tells Q t → Tells (P ⊎ Q) (s || t)
tells_or (holds p) y = holds (inl p)
tells_or (fails n) (holds q) = holds (inr q)
tells_or (fails n) (fails m) = fails (⊎_elim n m)

later : {T : Type 0} {c : Cause} {cs : List Cause} {P : T → Type 0} {r : Outcome T} → (c.means → ⊥) → Meets cs P r → Meets (c ∷ cs) P r
later n (answers m p) = answers (n, m) p
later n (refuses f) = refuses (inr (n, f))

one : {T : Type 0} (c : Cause) {cs : List Cause} {P : T → Type 0} {r : Outcome T} {b : Bool} → Tells c.means b
    → ((c.means → ⊥) → Meets cs P r) → Meets (c ∷ cs) P (cond b (refused c.number) r)
one c (holds p) f = refuses (inl (p, refl))
one c (fails n) f = later n (f n)

-- where the tests decide their statements and x has the property whenever no cause holds, the outcome means what it should
pub meets : {T : Type 0} (cs : List Cause) {P : T → Type 0} (x : T) → Decided cs → (None cs → P x) → Meets cs P (unless cs x)
unfolding unless
meets [] x d f = answers tt (f tt)
meets (c ∷ cs) x d f = one c d.0 (λ n. meets cs x (d.1 n) (λ m. f (n, m)))

-- where no cause holds, x is the answer
pub clear : {T : Type 0} (cs : List Cause) {x : T} → Decided cs → None cs → unless cs x ≡ answered x
unfolding unless
clear [] d n = refl
clear (c ∷ cs) {x} d n = simp (told_false d.0 n.0) (clear cs (d.1 n.0) n.1)

-- an outcome that is one which means what it should means it too
pub told : {T : Type 0} {cs : List Cause} {P : T → Type 0} {r o : Outcome T} → Meets cs P o → r ≡ o → (r ≡ o) × Meets cs P r
told {T} {cs} {P} m e = (e, subst (λ (x : Outcome T). Meets cs P x) (sym e) m)

-- the same beside another fact
pub told_also : {T H : Type 0} {cs : List Cause} {P : T → Type 0} {r o : Outcome T} → Meets cs P o → r ≡ o → H → (r ≡ o) × (Meets cs P r × H)
told_also {T} {H} {cs} {P} m e h = (e, (subst (λ (x : Outcome T). Meets cs P x) (sym e) m, h))

-- what an answer, and what a refusal, that means what it should says
pub answered_means : {T : Type 0} {cs : List Cause} {P : T → Type 0} {x : T} → Meets cs P (answered x) → None cs × P x
answered_means (answers n p) = (n, p)

pub refused_means : {T : Type 0} {cs : List Cause} {P : T → Type 0} {k : ℕ} → Meets cs P (refused k) → First cs k
refused_means (refuses f) = f

-- a table gives one number at most, and none where no cause holds
pub one_number : (cs : List Cause) (j k : ℕ) → First cs j → First cs k → j ≡ k
one_number [] j k z2 _ = elim z2 [ ]
one_number (c ∷ cs) j k (inl (p, e)) (inl (q, f)) = e ∙ sym f
one_number (c ∷ cs) j k (inl (p, e)) (inr (n, f)) = absurd (n p)
one_number (c ∷ cs) j k (inr (n, e)) (inl (q, f)) = absurd (n q)
one_number (c ∷ cs) j k (inr (n, e)) (inr (m, f)) = one_number cs j k e f

pub no_number : (cs : List Cause) (k : ℕ) → None cs → First cs k → ⊥
no_number [] k n z2 = elim z2 [ ]
no_number (c ∷ cs) k n (inl (p, e)) = n.0 p
no_number (c ∷ cs) k n (inr (m, f)) = no_number cs k n.1 f

-- a meaning that one answer at most has leaves one outcome
pub one_outcome : {T : Type 0} (cs : List Cause) (P : T → Type 0) → ((x y : T) → P x → P y → x ≡ y)
    → {r s : Outcome T} → Meets cs P r → Meets cs P s → r ≡ s
one_outcome cs P u (answers {x = x} n p) (answers {x = y} m q) = ap answered (u x y p q)
one_outcome cs P u (answers n p) (refuses {k = k} f) = absurd (no_number cs k n f)
one_outcome cs P u (refuses {k = k} e) (answers n p) = absurd (no_number cs k n e)
one_outcome cs P u (refuses {k = j} e) (refuses {k = k} f) = ap refused (one_number cs j k e f)

-- an outcome that is one which means what it should means it too
pub means : {T : Type 0} {cs : List Cause} {P : T → Type 0} {r o : Outcome T} → Meets cs P o → r ≡ o → Meets cs P r
means {T} {cs} {P} m e = subst (λ (x : Outcome T). Meets cs P x) (sym e) m
