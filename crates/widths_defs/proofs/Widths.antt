-- Two widths, v ≤ w: what v bits hold is tested and taken apart alike at both. Assumes nothing.
use mathlib.Core.Path.{◌≡◌, refl, sym, ap, ap₂, ◌∙◌}
use mathlib.Core.Bool.{Bool, true, false, cond}
use mathlib.Core.List.{List, [], ◌∷◌, ◌++◌}
use Prim.Native.Nat.{ℕ, zero, suc, ◌^◌, ◌≤◌, ◌<◌}
use native.Mathlib.Nat.{mod-eq_of_lt}
use native.Mathlib.Omega.{arith}
use lib.Pow.{pow_pos, pow_mono}
use borrow.Author.Tests.{lt-leb}
use Rattle.util_defs.specs.Power.{power_of_two}
use Rattle.util_defs.specs.Refusal.{Outcome, answered, refused, Cause, unless, Tells, holds, fails, None, Decided}
use Rattle.util_defs.proofs.Refusals.{agree, tells_eq}
use Rattle.util_defs.proofs.Powers.{tells_power}
use Rattle.rounding.specs.Word.{highest_bit}
use Rattle.rounding.proofs.Words.{same_align, parts_of_lem}
use Rattle.trailing_defs.specs.Size.{Trailing}
use Rattle.widths_defs.specs.Low.{mapped, low_tail, TailIn}
use Rattle.widths_defs.specs.Within.{limited}

pub held : {n : ℕ} (v w : ℕ) → v ≤ w → n < 2 ^ v → n < 2 ^ w
held v w l h = let m : 2 ^ v ≤ 2 ^ w = pow_mono l in omega arith

-- the test of a power of two, and the highest one bit
pub same_power : (v w a : ℕ) → v ≤ w → a < 2 ^ v → power_of_two v a ≡ power_of_two w a
same_power v w a l h = agree (tells_power v a h) (tells_power w a (held v w l h))

highest_zero : (w : ℕ) → highest_bit w 0 ≡ 0
unfolding highest_bit
highest_zero zero = refl
highest_zero (suc k) = simp (lt-leb (2 ^ k) 0 (pow_pos k)) (highest_zero k)

pub same_highest : (v w n : ℕ) → v ≤ w → n < 2 ^ v → highest_bit v n ≡ highest_bit w n
same_highest v w n l h = go (tells_eq n 0)
  where
    go : {b : Bool} → Tells (n ≡ 0) b → highest_bit v n ≡ highest_bit w n
    go (holds e) = ap (highest_bit v) e ∙ highest_zero v ∙ sym (ap (highest_bit w) e ∙ highest_zero w)
    go (fails z) = same_align (parts_of_lem v n (omega (arith, z)) h) (parts_of_lem w n (omega (arith, z)) (held v w l h))

-- v bits keep all of what they hold
pub low_tail_lem : (v : ℕ) (t : Trailing) → TailIn v t → low_tail v t ≡ t
low_tail_lem v t h = simp (mod-eq_of_lt h.offset, mod-eq_of_lt h.elem, mod-eq_of_lt h.base, mod-eq_of_lt h.word)

-- a refusal, and what comes behind it
past : {S T : Type 0} (N : Outcome S → Outcome T) → ((k : ℕ) → N (refused k) ≡ refused k) → {P : Type 0} {b : Bool} (k : ℕ) {o : Outcome T} {q : Outcome S} → Tells P b
    → ((P → ⊥) → o ≡ N q) → cond b (refused k) o ≡ N (cond b (refused k) q)
past N r k (holds p) f = sym (r k)
past N r k (fails n) f = f n

-- an outcome that f does not change; one of a table, whose answer f does not change where no cause holds
pub mapped_same : {T : Type 0} (f : T → T) (o : Outcome T) → ((x : T) → o ≡ answered x → f x ≡ x) → o ≡ mapped f o
mapped_same f (answered x) h = ap answered (sym (h x refl))
mapped_same f (refused k) h = refl

pub unless_same : {T : Type 0} (f : T → T) (cs : List Cause) (x : T) → Decided cs → (None cs → f x ≡ x) → unless cs x ≡ mapped f (unless cs x)
unfolding unless
unless_same f [] x d h = ap answered (sym (h tt))
unless_same f (c ∷ cs) x d h = past (mapped f) (λ k. refl) c.number d.0 (λ n. unless_same f cs x (d.1 n) (λ m. h (n, m)))

-- two tables of one call whose tests come out alike
abbrev pub Alike : List Cause → List Cause → Type 0
Alike [] [] = Unit {0}
Alike [] (d ∷ ds) = ⊥
Alike (c ∷ cs) [] = ⊥
Alike (c ∷ cs) (d ∷ ds) = ((c.test ≡ d.test) × (c.number ≡ d.number)) × Alike cs ds

-- what holds behind them holds of the whole, where a refusal is narrowed to itself
pub tables : {S T : Type 0} (N : Outcome S → Outcome T) → ((k : ℕ) → N (refused k) ≡ refused k) → (cs ds es fs : List Cause) (x : T) (y : S) → Alike cs ds → Decided ds
    → (None ds → unless es x ≡ N (unless fs y)) → unless (cs ++ es) x ≡ N (unless (ds ++ fs) y)
unfolding unless
tables N r [] [] es fs x y a d f = f tt
tables N r [] (e ∷ ds) es fs x y a d f = absurd a
tables N r (c ∷ cs) [] es fs x y a d f = absurd a
tables N r (c ∷ cs) (e ∷ ds) es fs x y a d f =
    ap₂ (λ (b : Bool) (k : ℕ). cond b (refused k) (unless (cs ++ es) x)) a.0.0 a.0.1
    ∙ past N r e.number d.0 (λ n. tables N r cs ds es fs x y a.1 (d.1 n) (λ m. f (n, m)))

-- one test against M, which fails at v wherever it does at w, and says whether the answer passes
pub limit : {T P Q : Type 0} {b c : Bool} (k : ℕ) (y : T) (test : T → Bool) → Tells P b → Tells Q c → (Q → P) → (P → test y ≡ false) → ((P → ⊥) → test y ≡ true)
    → cond b (refused k) (answered y) ≡ limited k test (cond c (refused k) (answered y))
limit k y test (holds p) (holds q) i n z = refl
limit k y test (holds p) (fails q) i n z = simp (n p)
limit k y test (fails p) (holds q) i n z = absurd (p (i q))
limit k y test (fails p) (fails q) i n z = simp (z p)
