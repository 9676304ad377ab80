-- The lists of each length, one behind the other, and how many bytes they are. Assumes nothing.
use mathlib.Core.Path.{◌≡◌, refl, sym, ap, subst, ◌∙◌}
use mathlib.Core.List.{List, [], ◌++◌}
use Prim.Native.Nat.{ℕ, zero, suc, ◌+◌, ◌-◌, ◌*◌, ◌%◌, ◌^◌, ◌≤◌, ◌<◌}
use lib.Dec.{lit<}
use lib.ListN.{length, drop}
use lib.Pow.{shl_exact}
use lib.Seq.{sets, sets-eq}
use native.Mathlib.Nat.{pow-succ', pow-le-pow_right}
use native.Mathlib.Omega.{arith}
use Rattle.words.proofs.LittleEndian.{sets_sets}
use Rattle.cases_defs.specs.Cases.{cases_of, cases_to, list_count, greatest_length, case_bytes, cases_bytes}
use Rattle.cases_defs.proofs.Counted.{lists_closed}
use Rattle.cases_defs.proofs.Wrote.{all_bytes}
use Rattle.cases.specs.Grow.{grown_bytes}
use Rattle.cases.proofs.Grown.{pow_of, Room}
use Rattle.cases.proofs.Records.{flat_append, grown_cases}

-- ---- the bytes that are needed ----

-- 4 shifted, less 1, is three times the number of lists
pub thrice : (n : ℕ) → n ≤ greatest_length → 4 * 2 ^ (2 * n) % 2 ^ 64 ≡ 3 * list_count n + 1
thrice n h = shl_exact {a = 4} 3 (2 * n) 64 (lit< tt) (omega arith) ∙ omega (arith, pow_of 2 n, pow-succ' 4 n, lists_closed n)

pub few : (n : ℕ) → n ≤ greatest_length → 3 * list_count n + 1 ≤ 16384
few n h = let g : 4 ^ suc n ≤ 4 ^ 7 = pow-le-pow_right {n = 4} (lit< tt) {i = suc n} {j = 7} (omega arith) in omega (arith, lists_closed n)

-- ---- the lists below a length ----

abbrev pub lists_below : ℕ → ℕ
lists_below zero = 0
lists_below (suc n) = list_count n

abbrev pub bytes_below : ℕ → List ℕ
bytes_below zero = []
bytes_below (suc n) = cases_bytes (cases_to n)

below_more : (n : ℕ) → list_count n ≡ lists_below n + 4 ^ n
unfolding list_count
below_more zero = refl
below_more (suc n) = refl

below_bytes : (n : ℕ) → cases_bytes (cases_to n) ≡ bytes_below n ++ cases_bytes (cases_of n)
unfolding cases_to
below_bytes zero = refl
below_bytes (suc n) = flat_append case_bytes (cases_to n) (cases_of (suc n))

below_length : (n : ℕ) → n ≤ suc greatest_length → length (bytes_below n) ≡ 40 * lists_below n
below_length zero h = refl
below_length (suc n) h = all_bytes n (omega arith)

count_mono : (m n : ℕ) → m ≤ n → list_count m ≤ list_count n
count_mono m n h =
    let g : 4 ^ suc m ≤ 4 ^ suc n = pow-le-pow_right (lit< tt) (omega arith) in
    omega (arith, lists_closed m, lists_closed n)

-- where the lists of length n begin, and what is there before them
pub record Below (longest : ℕ) (old new : List ℕ) (at n : ℕ) : Type 0 where
  pub within : n ≤ suc longest
  pub begins : at ≡ 40 * lists_below n
  pub bytes : new ≡ sets old 0 (bytes_below n)
  pub kept : length new ≡ length old

module _ (longest : ℕ) (old new : List ℕ) (at n : ℕ) (b : Below longest old new at n) (l : n ≤ longest) (h : longest ≤ greatest_length) (r : 40 * list_count longest ≤ length old) where
  -- there is room for them
  pub room_below : Room at n 2 (18446744073709486080 + n) (length new)
  room_below =
      let g : 256 ^ (2 + n) ≤ 256 ^ 8 = pow-le-pow_right {n = 256} (lit< tt) {i = 2 + n} {j = 8} (omega arith) in
      (omega (arith, b.begins, b.kept, below_more n, count_mono n longest l), omega arith, omega (arith, g), omega arith)

  -- and then those below the next length are there
  pub next_below : (x : List ℕ) (a : ℕ) → a ≡ at + 40 * 4 ^ n → x ≡ sets new at (grown_bytes n 2 (18446744073709486080 + n)) → length x ≡ length new
      → Below longest old x a (n + 1)
  next_below x a e f k =
      let o : n + 1 ≡ suc n = omega arith in
      subst (λ (m : ℕ). Below longest old x a m) (sym o) (record {
        within = omega arith;
        begins = omega (arith, b.begins, below_more n);
        bytes =
            f ∙ ap (λ (g : List ℕ). sets new at g) (grown_cases n (omega arith))
            ∙ ap (λ (t : List ℕ). sets t at (cases_bytes (cases_of n))) b.bytes
            ∙ sets_sets (bytes_below n) (cases_bytes (cases_of n)) old 0 at (omega (arith, b.begins, below_length n (omega arith)))
            ∙ ap (λ (g : List ℕ). sets old 0 g) (sym (below_bytes n));
        kept = k ∙ b.kept;
      })

-- what stands in front is what was written, and behind it what was there
pub in_front : (n : ℕ) (old : List ℕ) → n ≤ greatest_length → 40 * list_count n ≤ length old
    → sets old 0 (cases_bytes (cases_to n)) ≡ cases_bytes (cases_to n) ++ drop (length (cases_bytes (cases_to n))) old
in_front n old h r =
    let z : 0 + length (cases_bytes (cases_to n)) ≡ length (cases_bytes (cases_to n)) = omega arith in
    sets-eq (cases_bytes (cases_to n)) old 0 (omega (arith, all_bytes n h)) ∙ ap (λ (k : ℕ). cases_bytes (cases_to n) ++ drop k old) z
