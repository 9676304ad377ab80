-- The bytes of the recursion are the records of the cases. Assumes nothing.
use mathlib.Core.Path.{◌≡◌, refl, sym, ap, ◌∙◌}
use mathlib.Core.List.{List, [], ◌∷◌, ◌++◌, map, flat_map, append_assoc, append-nil}
use Prim.Native.Nat.{ℕ, zero, suc, ◌+◌, ◌-◌, ◌*◌, ◌^◌, ◌≤◌, ◌<◌}
use lib.ListN.{length, replicate, take, length-append}
use lib.Dec.{lit<}
use lib.Seq.{take_all}
use native.Mathlib.Nat.{pow-succ'}
use native.Mathlib.Omega.{arith}
use Rattle.words.specs.Bytes.{value_of, word_bytes}
use Rattle.words.proofs.LittleEndian.{AllBytes, part_back, all_append}
use Rattle.cases_defs.specs.Cases.{Case, scalars, lists_of, under_each, cases_of, greatest_length, unused, case_bytes, cases_bytes}
use Rattle.cases_defs.proofs.Counted.{case_length_lem}
use Rattle.cases.specs.Grow.{list_bytes, grown_bytes}

-- ---- lists end to end ----

pub flat_append : {S T : Type 0} (g : S → List T) (xs ys : List S) → flat_map g (xs ++ ys) ≡ flat_map g xs ++ flat_map g ys
unfolding flat_map
flat_append g [] ys = refl
flat_append g (x ∷ xs) ys = ap (λ (l : List _). g x ++ l) (flat_append g xs ys) ∙ sym (append_assoc (g x) (flat_map g xs) (flat_map g ys))

flat_flat : {R S T : Type 0} (f : R → List S) (g : S → List T) (xs : List R) → flat_map g (flat_map f xs) ≡ flat_map (λ x. flat_map g (f x)) xs
unfolding flat_map
flat_flat f g [] = refl
flat_flat f g (x ∷ xs) = flat_append g (f x) (flat_map f xs) ∙ ap (λ (l : List _). flat_map g (f x) ++ l) (flat_flat f g xs)

flat_map_lem : {R S T : Type 0} (f : R → S) (g : S → List T) (xs : List R) → flat_map g (map f xs) ≡ flat_map (λ x. g (f x)) xs
unfolding flat_map
flat_map_lem f g [] = refl
flat_map_lem f g (x ∷ xs) = ap (λ (l : List _). g (f x) ++ l) (flat_map_lem f g xs)

flat_same : {S T : Type 0} (f g : S → List T) → ((x : S) → f x ≡ g x) → (xs : List S) → flat_map f xs ≡ flat_map g xs
unfolding flat_map
flat_same f g h [] = refl
flat_same f g h (x ∷ xs) = λ i. h x i ++ flat_same f g h xs i

-- the records of a list of codes under each packing, and of all lists of k codes behind the codes p
abbrev list_records : List ℕ → List ℕ
list_records cs = flat_map case_bytes (under_each cs)

abbrev records_from : List ℕ → ℕ → List ℕ
records_from p k = flat_map (λ (l : List ℕ). list_records (p ++ l)) (lists_of k)

pub records_of : (k : ℕ) → records_from [] k ≡ cases_bytes (cases_of k)
records_of k = sym (flat_flat under_each case_bytes (lists_of k))

-- one slot fewer, with each code in it
records_next : (p : List ℕ) (k : ℕ) → records_from p (suc k) ≡ flat_map (λ c. records_from (p ++ (c ∷ [])) k) scalars
unfolding lists_of
records_next p k =
    flat_flat (λ (c : ℕ). map (λ (l : List ℕ). c ∷ l) (lists_of k)) (λ (l : List ℕ). list_records (p ++ l)) scalars
    ∙ flat_same _ _ (λ c. flat_map_lem (λ (l : List ℕ). c ∷ l) (λ (l : List ℕ). list_records (p ++ l)) (lists_of k)
    ∙ flat_same _ _ (λ l. ap list_records (sym (append_assoc p (c ∷ []) l))) (lists_of k)) scalars

-- ---- the record so far as a word ----

-- its bytes: the length n, no packing, the codes p, and the others unused
abbrev pub so_far : ℕ → List ℕ → List ℕ
so_far n p = n ∷ 0 ∷ p ++ replicate (greatest_length - length p) unused

-- another byte in one place
swap : (pre post : List ℕ) (x y : ℕ) → x ≤ y → value_of (pre ++ (x ∷ post)) + (y - x) * 256 ^ length pre ≡ value_of (pre ++ (y ∷ post))
unfolding value_of
swap [] post x y h = omega (arith, h)
swap (b ∷ pre) post x y h =
    let d : (y - x) * 256 ^ suc (length pre) ≡ 256 * ((y - x) * 256 ^ length pre) = ap (λ (t : ℕ). (y - x) * t) (pow-succ' 256 (length pre)) ∙ omega arith in
    omega (arith, d, swap pre post x y h)

-- the next unused byte becomes the code c
put_code : (n c : ℕ) (p : List ℕ) → length p < greatest_length → c ≤ 3
    → value_of (so_far n (p ++ (c ∷ []))) + (255 - c) * 256 ^ (2 + length p) ≡ value_of (so_far n p)
put_code n c p h g =
    let m = greatest_length - suc (length p) in
    let rest = replicate m unused in
    let l : length (p ++ (c ∷ [])) ≡ suc (length p) = length-append p (c ∷ []) ∙ omega arith in
    let d : greatest_length - length p ≡ suc m = omega arith in
    let u : so_far n p ≡ (n ∷ 0 ∷ p) ++ (unused ∷ rest) = ap (λ (k : ℕ). n ∷ 0 ∷ (p ++ replicate k unused)) d in
    let v : so_far n (p ++ (c ∷ [])) ≡ (n ∷ 0 ∷ p) ++ (c ∷ rest) =
    ap (λ (k : ℕ). n ∷ 0 ∷ (p ++ (c ∷ []) ++ replicate (greatest_length - k) unused)) l ∙ ap (λ (t : List ℕ). n ∷ 0 ∷ t) (append_assoc p (c ∷ []) rest) in
    let w : 256 ^ (2 + length p) ≡ 256 ^ suc (suc (length p)) = ap (λ (k : ℕ). 256 ^ k) (omega arith) in
    ap (λ (t : List ℕ). value_of t + (255 - c) * 256 ^ (2 + length p)) v
    ∙ ap (λ (t : ℕ). value_of ((n ∷ 0 ∷ p) ++ (c ∷ rest)) + (255 - c) * t) w
    ∙ swap (n ∷ 0 ∷ p) rest c unused (omega arith)
    ∙ sym (ap value_of u)

one_byte : (c : ℕ) → c ≤ 3 → AllBytes (c ∷ [])
one_byte c h zero = omega arith
one_byte c h (suc i) = lit< tt

unused_bytes : (n : ℕ) → AllBytes (replicate n unused)
unused_bytes zero i = lit< tt
unused_bytes (suc n) zero = lit< tt
unused_bytes (suc n) (suc i) = unused_bytes n i

case_bytes_lem : (c : Case) → length c.codes ≤ greatest_length → AllBytes c.codes → c.packing < 256 → AllBytes (case_bytes c)
case_bytes_lem c h a g zero = omega arith
case_bytes_lem c h a g (suc zero) = g
case_bytes_lem c h a g (suc (suc i)) = all_append c.codes (replicate (greatest_length - length c.codes) unused) a (unused_bytes (greatest_length - length c.codes)) i

-- the word of a list under a packing
word_case : (p : List ℕ) (q : ℕ) → length p ≤ greatest_length → AllBytes p → q < 256
    → word_bytes (value_of (so_far (length p) p) + 256 * q) ≡ case_bytes (record { codes = p; packing = q })
unfolding value_of
word_case p q h a g =
    let c : Case = record { codes = p; packing = q } in
    let n : length (case_bytes c) ≡ 8 = case_length_lem c h in
    let t : take 8 (case_bytes c) ≡ case_bytes c = take_all 8 (case_bytes c) (omega (arith, n)) in
    let b = part_back 8 (case_bytes c) 0 (case_bytes_lem c h a g) (omega (arith, n)) in
    let v : value_of (so_far (length p) p) + 256 * q ≡ value_of (case_bytes c) = omega arith in
    ap word_bytes (v ∙ ap value_of (sym t)) ∙ b ∙ t

-- ---- the recursion ----

four : (a b c d : List ℕ) → a ++ b ++ c ++ d ≡ a ++ (b ++ (c ++ (d ++ [])))
four a b c d = rw (append-nil d, append_assoc (a ++ b) c d, append_assoc a b (c ++ d)) refl

five : (a b c d e : List ℕ) → a ++ b ++ c ++ d ++ e ≡ a ++ (b ++ (c ++ (d ++ (e ++ []))))
five a b c d e = rw (append-nil e, append_assoc (a ++ b ++ c) d e, append_assoc (a ++ b) c (d ++ e), append_assoc a b (c ++ (d ++ e))) refl

-- a list under each packing
list_records_lem : (p : List ℕ) → length p ≤ greatest_length → AllBytes p → list_bytes (value_of (so_far (length p) p)) ≡ list_records p
unfolding flat_map
list_records_lem p h a =
    let v = value_of (so_far (length p) p) in
    let z : word_bytes v ≡ case_bytes (record { codes = p; packing = 0 }) = ap word_bytes (omega arith) ∙ word_case p 0 h a (lit< tt) in
    five (word_bytes v) (word_bytes (v + 256)) (word_bytes (v + 512)) (word_bytes (v + 1024)) (word_bytes (v + 2048))
    ∙ (λ i. z i ++ (word_case p 1 h a (lit< tt) i ++ (word_case p 2 h a (lit< tt) i ++ (word_case p 4 h a (lit< tt) i ++ (word_case p 8 h a (lit< tt) i ++ [])))))

-- what is written with k slots left, behind the codes p
pub grown_records : (k n : ℕ) (p : List ℕ) → n ≡ length p + k → n ≤ greatest_length → AllBytes p
    → grown_bytes k (2 + length p) (value_of (so_far n p)) ≡ records_from p k
unfolding grown_bytes lists_of flat_map
grown_records zero n p e h a =
    let m : n ≡ length p = omega arith in
    ap (λ (t : ℕ). list_bytes (value_of (so_far t p))) m
    ∙ list_records_lem p (omega arith) a
    ∙ ap list_records (sym (append-nil p))
    ∙ sym (append-nil (list_records (p ++ [])))
grown_records (suc k) n p e h a =
    let v = value_of (so_far n p) in
    let u = 256 ^ (2 + length p) in
    let w = v - 255 * u in
    let part : (c x : ℕ) → c ≤ 3 → x + (255 - c) * u ≡ v → grown_bytes k (2 + length p + 1) x ≡ records_from (p ++ (c ∷ [])) k =
    λ c x g d.
    let l : length (p ++ (c ∷ [])) ≡ length p + 1 = length-append p (c ∷ []) in
    let y : x ≡ value_of (so_far n (p ++ (c ∷ []))) = omega (arith, put_code n c p (omega arith) g) in
    let z : 2 + length p + 1 ≡ 2 + length (p ++ (c ∷ [])) = omega (arith, l) in
    (λ i. grown_bytes k (z i) (y i)) ∙ grown_records k n (p ++ (c ∷ [])) (omega (arith, l)) h (all_append p (c ∷ []) a (one_byte c g)) in
    let t = put_code n 0 p (omega arith) (omega arith) in
    (λ i. part 0 w (omega arith) (omega (arith, t)) i ++ part 1 (w + u) (omega arith) (omega (arith, t)) i ++ part 2 (w + 2 * u) (omega arith) (omega (arith, t)) i ++ part 3 (w + 3 * u) (omega arith) (omega (arith, t)) i)
    ∙ four (records_from (p ++ (0 ∷ [])) k) (records_from (p ++ (1 ∷ [])) k) (records_from (p ++ (2 ∷ [])) k) (records_from (p ++ (3 ∷ [])) k)
    ∙ sym (records_next p k)

-- all lists of k codes
pub grown_cases : (k : ℕ) → k ≤ greatest_length → grown_bytes k 2 (18446744073709486080 + k) ≡ cases_bytes (cases_of k)
unfolding value_of
grown_cases k h =
    let v : 18446744073709486080 + k ≡ value_of (so_far k []) = omega arith in
    ap (λ (t : ℕ). grown_bytes k 2 t) v ∙ grown_records k k [] (omega arith) h (λ i. lit< tt) ∙ records_of k
