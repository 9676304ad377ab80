-- The fields of short records, their bytes, and the words they stand for. Assumes nothing.
use mathlib.Core.Path.{◌≡◌, refl, sym, ap, ◌∙◌}
use mathlib.Core.Bool.{Bool, true, false, cond, ◌||◌}
use mathlib.Core.List.{List, ◌++◌}
use Prim.Native.Nat.{ℕ, zero, suc, ◌+◌, ◌^◌, ◌≤◌, ◌<◌}
use native.Mathlib.Nat.{pow-le-pow_right, two-pow-succ, one-le-pow}
use native.Mathlib.Omega.{arith}
use borrow.Author.Tests.{eqb-true, ltb-true, ltb-false}
use lib.Dec.{eqb, ltb}
use lib.ListN.{length}
use lib.Seq.{take_all, take-add}
use Rattle.util_defs.specs.Power.{power_of_two}
use Rattle.util_defs.proofs.Powers.{tells_power}
use Rattle.util_defs.proofs.Refusals.{told_true}
use Rattle.words.specs.Bytes.{bytes_of, word_at, word_bytes}
use Rattle.words.proofs.LittleEndian.{AllBytes, value_bytes, word_back, part_back, part_below, bytes_all, all_append}
use Rattle.record_defs.specs.Record.{Words, words_at, record_bytes}
use Rattle.record_defs.proofs.RoundTrips.{Fits}
use Rattle.short_defs.specs.Short.{Short, number_at, short_at, short_bytes, exponent_of, short_of, words_from}

-- the power of an alignment that is a power of two of w bits
pub power_is : (w a : ℕ) → power_of_two w a ≡ true → 2 ^ exponent_of w a ≡ a
unfolding power_of_two exponent_of
power_is zero a e = let z : ◌≡◌ {A = ℕ} 0 1 = cc in absurd (omega arith)
power_is (suc k) a e = go (eqb a (2 ^ k)) refl e (power_is k a)
  where
    go : (b : Bool) → eqb a (2 ^ k) ≡ b → (b || power_of_two k a) ≡ true → (power_of_two k a ≡ true → 2 ^ exponent_of k a ≡ a) → 2 ^ cond b k (exponent_of k a) ≡ a
    go true t e rec = sym (eqb-true a (2 ^ k) t)
    go false t e rec = rec e

pub exponent_below : (w a : ℕ) → power_of_two w a ≡ true → exponent_of w a < w
unfolding power_of_two exponent_of
exponent_below zero a e = let z : ◌≡◌ {A = ℕ} 0 1 = cc in absurd (omega arith)
exponent_below (suc k) a e = go (eqb a (2 ^ k)) refl e (exponent_below k a)
  where
    go : (b : Bool) → eqb a (2 ^ k) ≡ b → (b || power_of_two k a) ≡ true → (power_of_two k a ≡ true → exponent_of k a < k) → cond b k (exponent_of k a) < suc k
    go true t e rec = omega arith
    go false t e rec = omega (arith, rec e)

pow_below : (a b : ℕ) → a < b → 2 ^ a < 2 ^ b
pow_below a b h =
    let m : 2 ^ suc a ≤ 2 ^ b = pow-le-pow_right (omega arith) h in
    omega (arith, two-pow-succ a, one-le-pow a 2 (omega arith))

same_power : (a b : ℕ) → 2 ^ a ≡ 2 ^ b → a ≡ b
same_power a b e = go (ltb a b) refl (ltb b a) refl
  where
    go : (x : Bool) → ltb a b ≡ x → (y : Bool) → ltb b a ≡ y → a ≡ b
    go true p y q = absurd (omega (arith, pow_below a b (ltb-true a b p), e))
    go false p true q = absurd (omega (arith, pow_below b a (ltb-true b a q), e))
    go false p false q = omega (arith, ltb-false a b p, ltb-false b a q)

pub is_power : (w k : ℕ) → k < w → power_of_two w (2 ^ k) ≡ true
is_power w k h = told_true (tells_power w (2 ^ k) (pow_below k w h)) (record { exponent = k; power = refl })

pub exponent_power : (w k : ℕ) → k < w → exponent_of w (2 ^ k) ≡ k
exponent_power w k h = same_power (exponent_of w (2 ^ k)) k (power_is w (2 ^ k) (is_power w k h))

-- the words of the short form of words, and the short form of a short record's words
pub words_short : (r : Words) → power_of_two 64 r.align ≡ true → words_from (short_of r) ≡ r
words_short r e = ap (λ (a : ℕ). record { align = a; kind = r.kind; size = r.size; offset = r.offset; elem = r.elem; word = r.word }) (power_is 64 r.align e)

pub short_words : (r : Short) → r.spare ≡ 0 → r.power ≤ 63 → short_of (words_from r) ≡ r
short_words r e h =
    ap (λ (p : ℕ). record { size = r.size; offset = r.offset; elem = r.elem; word = r.word; power = p; kind = r.kind; spare = 0 }) (exponent_power 64 r.power (omega arith))
    ∙ ap (λ (z : ℕ). record { size = r.size; offset = r.offset; elem = r.elem; word = r.word; power = r.power; kind = r.kind; spare = z }) (sym e)

-- each field is held in its bytes
pub record Holds (r : Short) : Type 0 where
  pub size : r.size < 256 ^ 8
  pub offset : r.offset < 256 ^ 8
  pub elem : r.elem < 256 ^ 8
  pub word : r.word < 256 ^ 4
  pub power : r.power < 256 ^ 1
  pub kind : r.kind < 256 ^ 1
  pub spare : r.spare < 256 ^ 2

-- the fields of a short record's bytes are those of the record
pub short_back : (r : Short) → Holds r → short_at (short_bytes r) 0 ≡ r
unfolding bytes_of
short_back r f =
    let b : word_at (short_bytes r) 0 ≡ r.size = value_bytes 8 r.size f.size in
    let o : word_at (short_bytes r) 8 ≡ r.offset = value_bytes 8 r.offset f.offset in
    let e : word_at (short_bytes r) 16 ≡ r.elem = value_bytes 8 r.elem f.elem in
    let v : number_at 4 (short_bytes r) 24 ≡ r.word = value_bytes 4 r.word f.word in
    let p : number_at 1 (short_bytes r) 28 ≡ r.power = value_bytes 1 r.power f.power in
    let k : number_at 1 (short_bytes r) 29 ≡ r.kind = value_bytes 1 r.kind f.kind in
    let z : number_at 2 (short_bytes r) 30 ≡ r.spare = value_bytes 2 r.spare f.spare in
    seven b o e v p k z
  where
    seven : {b o e v p k z b' o' e' v' p' k' z' : ℕ} → b ≡ b' → o ≡ o' → e ≡ e' → v ≡ v' → p ≡ p' → k ≡ k' → z ≡ z'
        → ◌≡◌ {A = Short} (record { size = b; offset = o; elem = e; word = v; power = p; kind = k; spare = z }) (record { size = b'; offset = o'; elem = e'; word = v'; power = p'; kind = k'; spare = z' })
    seven eb eo ee ev ep ek ez = cc

-- the bytes of the fields of 32 bytes are those bytes
pub short_bytes_back : (s : List ℕ) → AllBytes s → length s ≡ 32 → short_bytes (short_at s 0) ≡ s
short_bytes_back s h n =
    rw (word_back s 0 h (omega arith), word_back s 8 h (omega arith), word_back s 16 h (omega arith), part_back 4 s 24 h (omega arith), part_back 1 s 28 h (omega arith), part_back 1 s 29 h (omega arith), part_back 2 s 30 h (omega arith), ← take-add 8 8 s, ← take-add 16 8 s, ← take-add 24 4 s, ← take-add 28 1 s, ← take-add 29 1 s, ← take-add 30 2 s)
    (take_all 32 s (omega arith))

pub short_length_lem : (r : Short) → length (short_bytes r) ≡ 32
unfolding bytes_of
short_length_lem r = refl

-- what bytes hold
pub words_fit : (s : List ℕ) → AllBytes s → Fits (words_at s 0)
words_fit s h = record { align = part_below 8 s 0 h; kind = part_below 8 s 8 h; size = part_below 8 s 16 h; offset = part_below 8 s 24 h; elem = part_below 8 s 32 h; word = part_below 8 s 40 h }

pub short_holds : (s : List ℕ) → AllBytes s → Holds (short_at s 0)
short_holds s h = record { size = part_below 8 s 0 h; offset = part_below 8 s 8 h; elem = part_below 8 s 16 h; word = part_below 4 s 24 h; power = part_below 1 s 28 h; kind = part_below 1 s 29 h; spare = part_below 2 s 30 h }

more_bytes : (s : List ℕ) (n v : ℕ) → AllBytes s → AllBytes (s ++ bytes_of n v)
more_bytes s n v h = all_append s (bytes_of n v) h (bytes_all n v)

pub short_all : (r : Short) → AllBytes (short_bytes r)
short_all r =
    let s1 = word_bytes r.size in
    let s2 = s1 ++ word_bytes r.offset in
    let s3 = s2 ++ word_bytes r.elem in
    let s4 = s3 ++ bytes_of 4 r.word in
    let s5 = s4 ++ bytes_of 1 r.power in
    let s6 = s5 ++ bytes_of 1 r.kind in
    more_bytes s6 2 r.spare (more_bytes s5 1 r.kind (more_bytes s4 1 r.power (more_bytes s3 4 r.word (more_bytes s2 8 r.elem (more_bytes s1 8 r.offset (bytes_all 8 r.size))))))

pub record_all : (r : Words) → AllBytes (record_bytes r)
record_all r =
    let s1 = word_bytes r.align in
    let s2 = s1 ++ word_bytes r.kind in
    let s3 = s2 ++ word_bytes r.size in
    let s4 = s3 ++ word_bytes r.offset in
    let s5 = s4 ++ word_bytes r.elem in
    more_bytes s5 8 r.word (more_bytes s4 8 r.elem (more_bytes s3 8 r.offset (more_bytes s2 8 r.size (more_bytes s1 8 r.kind (bytes_all 8 r.align)))))
