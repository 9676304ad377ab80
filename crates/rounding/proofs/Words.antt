-- Rounding words, over any width w. Assumes nothing.
use mathlib.Core.Path.{◌≡◌, refl, sym, ap, ap₂, ◌∙◌}
use mathlib.Core.Bool.{Bool, true, false, cond}
use mathlib.Core.List.{List, ◌∷◌}
use mathlib.Core.Logic.{inl, inr}
use Prim.Native.Nat.{ℕ, zero, suc, ◌+◌, ◌-◌, ◌*◌, ◌%◌, ◌^◌, ◌≤◌, ◌<◌}
use native.Mathlib.Nat.{mod-eq_of_lt, one-mul, lt_of_le_of_lt}
use native.Mathlib.Omega.{arith}
use lib.Pow.{pow_mono, pow_pos}
use lib.Bits.{bit_xor, xor_block, xor_self, xor_zero_r}
use lib.Count.{count_leading_zeros, leading_top}
use lib.Dec.{leb}
use borrow.Author.Tests.{leb-true, leb-false, eq-eqb, ne_eqb}
use Rattle.util_defs.specs.Power.{PowerOfTwo}
use Rattle.util_defs.specs.Refusal.{answered, refused, Cause, unless, First, Meets}
use Rattle.util_defs.proofs.Refusals.{tells_eq, tells_le, meets, clear}
use Rattle.util_defs.proofs.Powers.{pow_lt_cancel}
use Rattle.util_defs.proofs.Helpers.{power, align_decided}
use Rattle.rounding.specs.Word.{IsWord, word_zero, highest_bit, align_of, phase_of, new_causes, word_causes, new_for, components_for, align_for, PartsOf, AlignOf}

-- the alignment of a word is at most that of the same word
align_le : {n A p B q : ℕ} → IsWord n A p → IsWord n B q → A ≤ B
align_le {n} {A} {p} {B} {q} x y =
    let j = x.power.exponent in
    let k = y.power.exponent in
    let l : 2 ^ j < 2 ^ suc k = omega (arith, x.power.power, y.power.power, x.sum, y.sum, y.below) in
    let m : j < suc k = pow_lt_cancel j (suc k) l in
    let o : 2 ^ j ≤ 2 ^ k = pow_mono (omega arith) in
    omega (arith, x.power.power, y.power.power)

-- a word has one alignment and one phase
pub same_align : {n A p B q : ℕ} → IsWord n A p → IsWord n B q → A ≡ B
same_align x y = omega (arith, align_le x y, align_le y x)

pub same_phase : {n A p B q : ℕ} → IsWord n A p → IsWord n B q → p ≡ q
same_phase x y = omega (arith, same_align x y, x.sum, y.sum)

-- an alignment and a phase below it have one word, which is not 0
pub same_word : {m n A p : ℕ} → IsWord m A p → IsWord n A p → m ≡ n
same_word x y = x.sum ∙ sym y.sum

pub not_zero : {n A p : ℕ} → IsWord n A p → 0 < n
not_zero x = omega (arith, x.below, x.sum)

-- the highest one bit of a number that is not 0
pub highest : (w n : ℕ) → 0 < n → n < 2 ^ w → IsWord n (highest_bit w n) (n - highest_bit w n)
unfolding highest_bit
highest zero n p h = absurd (omega arith)
highest (suc k) n p h = go (leb (2 ^ k) n) refl (highest k n p)
  where
    go : (b : Bool) → leb (2 ^ k) n ≡ b → (n < 2 ^ k → IsWord n (highest_bit k n) (n - highest_bit k n))
        → IsWord n (cond b (2 ^ k) (highest_bit k n)) (n - cond b (2 ^ k) (highest_bit k n))
    go true e f =
        let l = leb-true (2 ^ k) n e in
        record { power = record { exponent = k; power = refl }; below = omega arith; sum = omega arith }
    go false e f = f (leb-false (2 ^ k) n e)

-- each word of w bits but 0 has its parts
pub parts_of_lem : (w n : ℕ) → 0 < n → n < 2 ^ w → IsWord n (align_of w n) (phase_of w n)
parts_of_lem w n p h = highest w n p h

-- and no others
pub align_is : {n A p : ℕ} (w : ℕ) → IsWord n A p → n < 2 ^ w → A ≡ align_of w n
align_is {n} w x h = same_align x (parts_of_lem w n (not_zero x) h)

pub phase_is : {n A p : ℕ} (w : ℕ) → IsWord n A p → n < 2 ^ w → p ≡ phase_of w n
phase_is {n} w x h = same_phase x (parts_of_lem w n (not_zero x) h)

-- without its alignment, taken out by xor, a word is its phase
pub xor_phase : {n A p : ℕ} → IsWord n A p → bit_xor n A ≡ n - A
xor_phase {n} {A} {p} x =
    let k = x.power.exponent in
    let a : A ≡ 1 * 2 ^ k + 0 = omega (arith, x.power.power) in
    let m : n ≡ 1 * 2 ^ k + p = omega (arith, x.power.power, x.sum) in
    let l : p < 2 ^ k = omega (arith, x.power.power, x.below) in
    ap₂ bit_xor m a ∙ xor_block k 1 1 p 0 l (pow_pos k) ∙ ap₂ (λ (y z : ℕ). y * 2 ^ k + z) (xor_self 1) (xor_zero_r p) ∙ omega (arith, x.sum)

-- 1 << (w - 1 - leading zeros), at w bits, is the highest one bit
pub top_bit : (w n : ℕ) → 0 < n → n < 2 ^ w → (1 * 2 ^ (w - 1 - count_leading_zeros w n)) % 2 ^ w ≡ align_of w n
top_bit w n p h =
    let top = leading_top w n p h in
    let j = top.0 in
    let s : w - 1 - count_leading_zeros w n ≡ j = omega (arith, top.1) in
    let b : 2 ^ j < 2 ^ w = lt_of_le_of_lt top.2 h in
    let e : (1 * 2 ^ (w - 1 - count_leading_zeros w n)) % 2 ^ w ≡ 2 ^ j = ap (λ (x : ℕ). (1 * 2 ^ x) % 2 ^ w) s ∙ ap (λ (x : ℕ). x % 2 ^ w) (one-mul (2 ^ j)) ∙ mod-eq_of_lt b in
    e ∙ align_is {p = n - 2 ^ j} w (record { power = record { exponent = j; power = refl }; below = omega (arith, top.2, top.3); sum = omega (arith, top.2) }) h

pub zeros_below : (w n : ℕ) → 0 < n → n < 2 ^ w → count_leading_zeros w n ≤ w - 1
zeros_below w n p h = omega (arith, (leading_top w n p h).1)

-- what the functions' outcomes mean
pub new_meets : (w a p : ℕ) → a < 2 ^ w → Meets (new_causes w a p) (λ n. IsWord n a p) (new_for w a p)
unfolding new_for
new_meets w a p h =
    meets (new_causes w a p) (a + p) (align_decided w a h, λ _. (tells_le a p, λ _. tt))
    (λ n. let l : p < a = omega (arith, n.1.0) in record { power = power w a h n.0; below = l; sum = refl })

pub components_meets : (w n : ℕ) → n < 2 ^ w → Meets (word_causes n) (PartsOf n) (components_for w n)
unfolding components_for
components_meets w n h =
    meets (word_causes n) (record { align = align_of w n; phase = phase_of w n }) (tells_eq n 0, λ _. tt) (λ z. parts_of_lem w n (omega (arith, z.0)) h)

pub align_meets : (w n : ℕ) → n < 2 ^ w → Meets (word_causes n) (AlignOf n) (align_for w n)
unfolding align_for
align_meets w n h =
    meets (word_causes n) (align_of w n) (tells_eq n 0, λ _. tt) (λ z. record { phase = phase_of w n; word = parts_of_lem w n (omega (arith, z.0)) h })

-- the parts of the word that new makes are what it was made of
pub made_parts : (w a p : ℕ) → PowerOfTwo a → p < a → a + p < 2 ^ w → components_for w (a + p) ≡ answered (record { align = a; phase = p })
unfolding components_for
made_parts w a p pw l h =
    let x : IsWord (a + p) a p = record { power = pw; below = l; sum = refl } in
    clear (word_causes (a + p)) (tells_eq (a + p) 0, λ _. tt) ((λ z. omega arith), tt)
    ∙ sym (ap (λ (c : ℕ). answered (record { align = c; phase = a + p - c })) (align_is w x h))
    ∙ ap (λ (q : ℕ). answered (record { align = a; phase = q })) (omega arith)

-- only the word 0 is refused, by 2
pub word_refused : {n k : ℕ} → First (word_causes n) k → (n ≡ 0) × (k ≡ 2)
word_refused (inl x) = x
word_refused (inr x) = absurd x.1

-- what is made of a word's alignment and phase may be made of any parts of it
pub at_parts : {n a q : ℕ} {T : Type 0} (w : ℕ) (f : ℕ → ℕ → T) → IsWord n a q → n < 2 ^ w → f (align_of w n) (phase_of w n) ≡ f a q
at_parts w f x h = ap₂ f (sym (align_is w x h)) (sym (phase_is w x h))

-- a table that begins with the word's cause: past it where the word is not 0, and refused by it where it is
pub word_clear : {T : Type 0} (n : ℕ) (cs : List Cause) (x : T) → 0 < n → unless (word_zero n ∷ cs) x ≡ unless cs x
unfolding unless
word_clear n cs x h = simp (ne_eqb n 0 (λ e. omega arith))

pub word_stop : {T : Type 0} {n k : ℕ} (cs : List Cause) (x : T) → (n ≡ 0) × (k ≡ 2) → refused k ≡ unless (word_zero n ∷ cs) x
unfolding unless
word_stop {T} {n} cs x z = simp (eq-eqb n 0 z.0) (ap refused z.1)

-- the highest one bit of a number that is not 0 is a power of two, however large the number
pub highest_power : (k n : ℕ) → 0 < n → PowerOfTwo (highest_bit (suc k) n)
unfolding highest_bit
highest_power zero n h = go (leb (2 ^ 0) n) refl
  where
    go : (b : Bool) → leb (2 ^ 0) n ≡ b → PowerOfTwo (cond b (2 ^ 0) 0)
    go true e = record { exponent = 0; power = refl }
    go false e = absurd (omega (arith, leb-false (2 ^ 0) n e))
highest_power (suc k) n h = go (leb (2 ^ suc k) n) (highest_power k n h)
  where
    go : (b : Bool) → PowerOfTwo (highest_bit (suc k) n) → PowerOfTwo (cond b (2 ^ suc k) (highest_bit (suc k) n))
    go true q = record { exponent = suc k; power = refl }
    go false q = q

pub align_power : (w n : ℕ) → 0 < w → 0 < n → PowerOfTwo (align_of w n)
align_power zero n h p = absurd (omega arith)
align_power (suc k) n h p = highest_power k n p
