-- How many cases there are, and how many bytes. Assumes nothing.
use mathlib.Core.Path.{◌≡◌, refl, ap, ◌∙◌}
use mathlib.Core.List.{List, [], ◌∷◌, ◌++◌, map, flat_map, Memᴰ}
use Prim.Native.Nat.{ℕ, zero, suc, ◌+◌, ◌-◌, ◌*◌, ◌^◌, ◌≤◌}
use lib.ListN.{length, length-append, length-map, length-replicate, replicate}
use native.Mathlib.Omega.{arith}
use native.Mathlib.Nat.{pow-succ'}
use Rattle.cases_defs.specs.Cases.{Case, scalars, lists_of, under_each, cases_of, cases_to, list_count, greatest_length, case_length, unused, case_bytes, cases_bytes}
use Rattle.cases_defs.proofs.Listed.{all_cases}

-- lists of one length, end to end
pub flat_length : {S T : Type 0} (f : S → List T) (k : ℕ) (xs : List S) → ((x : S) → Memᴰ x xs → length (f x) ≡ k)
    → length (flat_map f xs) ≡ k * length xs
unfolding flat_map
flat_length f k [] h = omega arith
flat_length f k (x ∷ xs) h =
    omega (arith, length-append (f x) (flat_map f xs), h x (Memᴰ.head refl), flat_length f k xs (λ y m. h y (Memᴰ.tail m)))

pub lists_length : (k : ℕ) → length (lists_of k) ≡ 4 ^ k
unfolding lists_of
lists_length zero = refl
lists_length (suc k) =
    flat_length (λ (c : ℕ). map (λ (l : List ℕ). c ∷ l) (lists_of k)) (length (lists_of k)) scalars (λ c _. length-map (lists_of k) (λ (l : List ℕ). c ∷ l))
    ∙ omega (arith, lists_length k, pow-succ' 4 k)

pub cases_length : (k : ℕ) → length (cases_of k) ≡ 5 * 4 ^ k
cases_length k = flat_length under_each 5 (lists_of k) (λ _ _. refl) ∙ ap (λ (n : ℕ). 5 * n) (lists_length k)

-- "5 times (1 + 4 + .. + 4^n)"
pub count : (n : ℕ) → length (cases_to n) ≡ 5 * list_count n
unfolding cases_to list_count
count zero = cases_length 0
count (suc n) = omega (arith, length-append (cases_to n) (cases_of (suc n)), count n, cases_length (suc n))

-- "with up to 3 members that is 425"
pub count_3 : length (cases_to 3) ≡ 425
unfolding list_count
count_3 = count 3

-- the sum, without adding up
pub lists_closed : (n : ℕ) → 3 * list_count n + 1 ≡ 4 ^ suc n
unfolding list_count
lists_closed zero = refl
lists_closed (suc n) = omega (arith, lists_closed n, pow-succ' 4 (suc n))

-- a record has 8 bytes
pub case_length_lem : (c : Case) → length c.codes ≤ greatest_length → length (case_bytes c) ≡ case_length
case_length_lem c h =
    let e : length (c.codes ++ replicate (greatest_length - length c.codes) unused) ≡ length c.codes + (greatest_length - length c.codes) =
    length-append c.codes (replicate (greatest_length - length c.codes) unused) ∙ ap (λ (n : ℕ). length c.codes + n) (length-replicate (greatest_length - length c.codes) unused) in
    omega (arith, e)

pub bytes_length : (n : ℕ) → n ≤ greatest_length → length (cases_bytes (cases_to n)) ≡ case_length * length (cases_to n)
bytes_length n h =
    flat_length case_bytes case_length (cases_to n) (λ c m. case_length_lem c (omega (arith, ((all_cases n).only c m).short)))
