-- What the answers of rounding words tell their callers. Assumes nothing.
use mathlib.Core.Path.{◌≡◌, subst}
use Prim.Native.Nat.{ℕ}
use Rattle.util_defs.specs.Refusal.{Meets}
use Rattle.std.specs.Prelude.{Result, Ok, Err}
use Rattle.util.specs.View.{number_of, number_says}
use Rattle.util.specs.declared.refusal.Refusal.{Refusal}
use Rattle.util_defs.proofs.Refusals.{answered_means, refused_means}
use Rattle.rounding.specs.Word.{IsWord, word_causes, PartsOf, AlignOf}
use Rattle.rounding.specs.View.{components_says}
use Rattle.rounding.specs.declared.Components.{Components}
use Rattle.rounding.proofs.Words.{word_refused}

pub parts_told : {n : ℕ} {c : Components ℕ} (r : Result (Components ℕ) Refusal) → Meets (word_causes n) (PartsOf n) (components_says r) → r ≡ Ok c → IsWord n c.align c.phase
parts_told {n} r m e = (answered_means (subst (λ (x : Result (Components ℕ) Refusal). Meets (word_causes n) (PartsOf n) (components_says x)) e m)).1

pub parts_refused : {n : ℕ} {k : Refusal} (r : Result (Components ℕ) Refusal) → Meets (word_causes n) (PartsOf n) (components_says r) → r ≡ Err k → (n ≡ 0) × (number_of k ≡ 2)
parts_refused {n} r m e = word_refused (refused_means (subst (λ (x : Result (Components ℕ) Refusal). Meets (word_causes n) (PartsOf n) (components_says x)) e m))

-- of `align`
pub align_told : {n a : ℕ} (r : Result ℕ Refusal) → Meets (word_causes n) (AlignOf n) (number_says r) → r ≡ Ok a → AlignOf n a
align_told {n} r m e = (answered_means (subst (λ (x : Result ℕ Refusal). Meets (word_causes n) (AlignOf n) (number_says x)) e m)).1

pub align_refused : {n : ℕ} {k : Refusal} (r : Result ℕ Refusal) → Meets (word_causes n) (AlignOf n) (number_says r) → r ≡ Err k → (n ≡ 0) × (number_of k ≡ 2)
align_refused {n} r m e = word_refused (refused_means (subst (λ (x : Result ℕ Refusal). Meets (word_causes n) (AlignOf n) (number_says x)) e m))
