-- Little-endian words in bytes, and runs of stores. Assumes nothing.
use mathlib.Core.Path.{◌≡◌, refl, sym, ap, ap₂, ◌∙◌}
use mathlib.Core.Bool.{Bool, true, false}
use mathlib.Core.List.{List, [], ◌∷◌, ◌++◌, append-nil, append_assoc}
use mathlib.Core.Logic.{◌⊎◌, inl, inr, ⊎_elim}
use Prim.Native.Nat.{ℕ, zero, suc, ◌+◌, ◌*◌, ◌/◌, ◌%◌, ◌^◌, ◌≤◌, ◌<◌}
use native.Mathlib.Nat.{add-zero, mul_comm, mul_assoc, pow-suc}
use native.Mathlib.Omega.{arith}
use borrow.Author.Tests.{ltb-true, ltb-false, le-leb, lt-leb}
use lib.Dec.{ltb}
use lib.ListN.{get_or, take, drop, set, length, length-append, length-take, length-drop, drop_of_length-le, get_or-eq_default}
use lib.Seq.{sets, sets-eq, drop-cons, get_or-take, get_or-drop, length-take-le, length-sets}
use Rattle.std.specs.Int.{to_le_bytes, w64}
use Rattle.std.proofs.lemmas.List.{drop-drop}
use Rattle.words.specs.Bytes.{value_of, bytes_of, word_at, word_bytes, read_for, put_into}

-- the value of the bytes of v is v, where they hold it
pub value_bytes : (n v : ℕ) → v < 256 ^ n → value_of (bytes_of n v) ≡ v
unfolding value_of bytes_of
value_bytes zero v h = omega arith
value_bytes (suc n) v h =
    let k : 256 ^ suc n ≡ 256 ^ n * 256 = pow-suc 256 n in
    let q : value_of (bytes_of n (v / 256)) ≡ v / 256 = value_bytes n (v / 256) (omega arith) in
    omega arith

-- one byte more of a value that is read from i on
value_step : (s : List ℕ) (n i j : ℕ) → i < length s → j ≡ suc i → value_of (take (suc n) (drop i s)) ≡ get_or s i 0 + 256 * value_of (take n (drop j s))
unfolding value_of
value_step s n i j h e = rw (drop-cons s i 0 h, e)

value_none : (s : List ℕ) (i : ℕ) → value_of (take 0 (drop i s)) ≡ 0
unfolding value_of
value_none s i = refl

-- eight bytes read one by one are the word
pub joined_word : (s : List ℕ) (i : ℕ) {a b c d e f g h : ℕ} → i + 8 ≤ length s
    → a ≡ get_or s i 0 → b ≡ get_or s (i + 1) 0 → c ≡ get_or s (i + 2) 0 → d ≡ get_or s (i + 3) 0
    → e ≡ get_or s (i + 4) 0 → f ≡ get_or s (i + 5) 0 → g ≡ get_or s (i + 6) 0 → h ≡ get_or s (i + 7) 0
    → a + 256 * b + 256 ^ 2 * c + 256 ^ 3 * d + 256 ^ 4 * e + 256 ^ 5 * f + 256 ^ 6 * g + 256 ^ 7 * h ≡ word_at s i
joined_word s i l ea eb ec ed ee ef eg eh =
    rw (value_step s 7 i (i + 1) (omega arith) (omega arith), value_step s 6 (i + 1) (i + 2) (omega arith) (omega arith), value_step s 5 (i + 2) (i + 3) (omega arith) (omega arith), value_step s 4 (i + 3) (i + 4) (omega arith) (omega arith), value_step s 3 (i + 4) (i + 5) (omega arith) (omega arith), value_step s 2 (i + 5) (i + 6) (omega arith) (omega arith), value_step s 1 (i + 6) (i + 7) (omega arith) (omega arith), value_step s 0 (i + 7) (i + 8) (omega arith) (omega arith), value_none s (i + 8))
    (omega arith)

-- two runs of stores, the second where the first ends, are one
pub sets_sets : (vs ws l : List ℕ) (i j : ℕ) → j ≡ i + length vs → sets (sets l i vs) j ws ≡ sets l i (vs ++ ws)
sets_sets [] ws l i j e = rw (e, add-zero i)
sets_sets (a ∷ vs) ws l i j e = sets_sets vs ws (set l i a) (suc i) j (omega arith)

-- a run of stores over the whole list
pub sets_whole : (vs l : List ℕ) → length vs ≡ length l → sets l 0 vs ≡ vs
sets_whole vs l e =
    sets-eq vs l 0 (omega arith)
    ∙ rw (drop_of_length-le l {i = 0 + length vs} (omega arith)) (append-nil vs)

-- what `to_le_bytes` gives is the bytes of the word
pub word_told : (v : ℕ) → to_le_bytes w64 v ≡ word_bytes v
unfolding bytes_of
word_told v =
    let e2 : v / 65536 ≡ v / 256 / 256 = omega arith in
    let e3 : v / 16777216 ≡ v / 256 / 256 / 256 = omega arith in
    let e4 : v / 4294967296 ≡ v / 256 / 256 / 256 / 256 = omega arith in
    let e5 : v / 1099511627776 ≡ v / 256 / 256 / 256 / 256 / 256 = omega arith in
    let e6 : v / 281474976710656 ≡ v / 256 / 256 / 256 / 256 / 256 / 256 = omega arith in
    let e7 : v / 72057594037927936 ≡ v / 256 / 256 / 256 / 256 / 256 / 256 / 256 = omega arith in
    rw (e2, e3, e4, e5, e6, e7) refl

-- a part of a list replaced by as many bytes
pub replaced : (to k : ℕ) (out v y : List ℕ) → k ≡ length v → y ≡ v → to + length v ≤ length out → take to out ++ (y ++ drop k (drop to out)) ≡ sets out to v
replaced to k out v y n e h =
    ap₂ (λ (z : List ℕ) (j : ℕ). take to out ++ (z ++ drop j (drop to out))) e n
    ∙ ap (λ (z : List ℕ). take to out ++ (v ++ z)) (drop-drop (length v) to out)
    ∙ sym (append_assoc (take to out) v (drop (to + length v) out)) ∙ sym (sets-eq v out to h)

pub word_length : (v : ℕ) → length (word_bytes v) ≡ 8
unfolding bytes_of
word_length v = refl

abbrev pub AllBytes : List ℕ → Type 0
AllBytes s = (i : ℕ) → get_or s i 0 < 256

bytes_value : (n : ℕ) (s : List ℕ) → length s ≡ n → AllBytes s → bytes_of n (value_of s) ≡ s
unfolding value_of bytes_of
bytes_value zero [] e h = refl
bytes_value zero (b ∷ s) e h = absurd (omega arith)
bytes_value (suc n) [] e h = absurd (omega arith)
bytes_value (suc n) (b ∷ s) e h =
    let lt : b < 256 = h 0 in
    let m : (b + 256 * value_of s) % 256 ≡ b = omega arith in
    let d : (b + 256 * value_of s) / 256 ≡ value_of s = omega arith in
    rw (m, d, bytes_value n s (omega arith) (λ i. h (suc i)))

lt_or_le : (j n : ℕ) → (j < n) ⊎ (n ≤ j)
lt_or_le j n = go (ltb j n) refl
  where
    go : (b : Bool) → ltb j n ≡ b → (j < n) ⊎ (n ≤ j)
    go true e = inl (ltb-true j n e)
    go false e = inr (ltb-false j n e)

part_bytes : (s : List ℕ) (n i : ℕ) → AllBytes s → AllBytes (take n (drop i s))
part_bytes s n i h j =
    ⊎_elim (λ l. let e : get_or (take n (drop i s)) j 0 ≡ get_or s (i + j) 0 = rw (get_or-take n (drop i s) j 0 l, get_or-drop) in omega (arith, h (i + j)))
    (λ g. let e : get_or (take n (drop i s)) j 0 ≡ 0 = get_or-eq_default (take n (drop i s)) 0 {n = j} (omega (arith, length-take n (drop i s))) in omega arith)
    (lt_or_le j n)

-- the bytes of the number that n bytes hold are those bytes
pub part_back : (n : ℕ) (s : List ℕ) (i : ℕ) → AllBytes s → i + n ≤ length s → bytes_of n (value_of (take n (drop i s))) ≡ take n (drop i s)
part_back n s i h l = bytes_value n (take n (drop i s)) (length-take-le n (drop i s) (omega (arith, length-drop i s))) (part_bytes s n i h)

pub word_back : (s : List ℕ) (i : ℕ) → AllBytes s → i + 8 ≤ length s → word_bytes (word_at s i) ≡ take 8 (drop i s)
word_back s i h l = part_back 8 s i h l

-- such a number is below 256 ^ n
value_below : (n : ℕ) (s : List ℕ) → length s ≤ n → AllBytes s → value_of s < 256 ^ n
unfolding value_of
value_below n [] e h = pow_positive n
  where
    pow_positive : (n : ℕ) → 0 < 256 ^ n
    pow_positive zero = omega arith
    pow_positive (suc n) = let k : 256 ^ suc n ≡ 256 ^ n * 256 = pow-suc 256 n in omega (arith, pow_positive n)
value_below zero (b ∷ s) e h = absurd (omega arith)
value_below (suc n) (b ∷ s) e h =
    let k : 256 ^ suc n ≡ 256 ^ n * 256 = pow-suc 256 n in
    let lt : b < 256 = h 0 in
    let r = value_below n s (omega arith) (λ i. h (suc i)) in
    omega arith

pub part_below : (n : ℕ) (s : List ℕ) (i : ℕ) → AllBytes s → value_of (take n (drop i s)) < 256 ^ n
part_below n s i h = value_below n (take n (drop i s)) (omega (arith, length-take n (drop i s))) (part_bytes s n i h)

-- what is written is bytes
pub bytes_all : (n v : ℕ) → AllBytes (bytes_of n v)
unfolding bytes_of
bytes_all zero v i = omega arith
bytes_all (suc n) v zero = omega arith
bytes_all (suc n) v (suc i) = bytes_all n (v / 256) i

pub all_append : (s t : List ℕ) → AllBytes s → AllBytes t → AllBytes (s ++ t)
all_append [] t h g i = g i
all_append (b ∷ s) t h g zero = h 0
all_append (b ∷ s) t h g (suc i) = all_append s t (λ j. h (suc j)) g i

pub all_part : (n : ℕ) (s : List ℕ) (i : ℕ) → AllBytes s → AllBytes (take n (drop i s))
all_part n s i h = part_bytes s n i h

by_256 : (x y : ℕ) → x * 256 * y ≡ 256 * (x * y)
by_256 x y = ap (λ (z : ℕ). z * y) (mul_comm x 256) ∙ mul_assoc 256 x y

-- a number of m + n bytes is those of its two parts
pub bytes_parts : (m n a b : ℕ) → a < 256 ^ m → bytes_of (m + n) (a + 256 ^ m * b) ≡ bytes_of m a ++ bytes_of n b
unfolding bytes_of
bytes_parts zero n a b h =
    let z : a ≡ 0 = omega arith in
    let e : 0 + n ≡ n = omega arith in
    let f : a + 1 * b ≡ b = omega arith in
    rw (e, f)
bytes_parts (suc m) n a b h =
    let k : 256 ^ suc m ≡ 256 ^ m * 256 = pow-suc 256 m in
    let e : suc m + n ≡ suc (m + n) = omega arith in
    let p : 256 ^ suc m * b ≡ 256 * (256 ^ m * b) = rw k (by_256 (256 ^ m) b) in
    let f : (a + 256 ^ suc m * b) % 256 ≡ a % 256 = omega arith in
    let g : (a + 256 ^ suc m * b) / 256 ≡ a / 256 + 256 ^ m * b = omega arith in
    rw (e, f, g, bytes_parts m n (a / 256) b (omega arith))

-- and the number of m + n bytes is made of those of its two parts
pub value_parts : (s : List ℕ) (m n i j : ℕ) → j ≡ i + m → j ≤ length s → value_of (take (m + n) (drop i s)) ≡ value_of (take m (drop i s)) + 256 ^ m * value_of (take n (drop j s))
unfolding value_of
value_parts s zero n i j e l =
    let z : 0 + n ≡ n = omega arith in
    let q : i ≡ j = omega arith in
    rw (z, q) (omega arith)
value_parts s (suc m) n i j e l =
    let z : suc m + n ≡ suc (m + n) = omega arith in
    let k : 256 ^ suc m ≡ 256 ^ m * 256 = pow-suc 256 m in
    let x = value_of (take n (drop j s)) in
    let p : 256 ^ suc m * x ≡ 256 * (256 ^ m * x) = rw k (by_256 (256 ^ m) x) in
    rw (z, value_step s (m + n) i (suc i) (omega arith) refl, value_step s m i (suc i) (omega arith) refl, value_parts s m n (suc i) j (omega arith) l) (omega arith)

-- the total forms, of a word that is among the bytes
pub read_within : (s : List ℕ) (i : ℕ) → i + 8 ≤ length s → read_for s i ≡ word_at s i
unfolding read_for
read_within s i h = simp (le-leb (i + 8) (length s) h)

pub put_within : (s : List ℕ) (i v : ℕ) → i + 8 ≤ length s → put_into s i v ≡ sets s i (word_bytes v)
unfolding put_into
put_within s i v h = simp (le-leb (i + 8) (length s) h)

-- one word more, written where n bytes end
pub put_next : (vs l : List ℕ) (i j n v : ℕ) → length vs ≡ n → j ≡ i + n → j + 8 ≤ length l → put_into (sets l i vs) j v ≡ sets l i (vs ++ word_bytes v)
put_next vs l i j n v e f h =
    put_within (sets l i vs) j v (omega (arith, length-sets l i vs)) ∙ sets_sets vs (word_bytes v) l i j (omega arith)

-- so many bytes are then written
pub more : (vs : List ℕ) (n v : ℕ) → length vs ≡ n → length (vs ++ word_bytes v) ≡ n + 8
more vs n v e = omega (arith, length-append vs (word_bytes v), word_length v)

-- the total forms, of a word that is not among the bytes
pub read_outside : (s : List ℕ) (i : ℕ) → length s < i + 8 → read_for s i ≡ 0
unfolding read_for
read_outside s i h = simp (lt-leb (i + 8) (length s) h)

pub put_outside : (s : List ℕ) (i v : ℕ) → length s < i + 8 → put_into s i v ≡ s
unfolding put_into
put_outside s i v h = simp (lt-leb (i + 8) (length s) h)
