-- Reading a line: one byte more of a number, one number more of a line, one number more that is the same. Assumes nothing.
use mathlib.Core.Path.{◌≡◌, refl, sym, ap, ap₂, subst, ◌∙◌}
use mathlib.Core.Logic.{◌⊎◌, inl, inr}
use mathlib.Core.Bool.{Bool, true, false, cond, ◌&&◌}
use mathlib.Core.List.{List, [], ◌∷◌, ◌++◌}
use Prim.Native.Nat.{ℕ, zero, suc, ◌+◌, ◌-◌, ◌*◌, ◌≤◌, ◌<◌, min}
use native.Mathlib.Omega.{arith}
use borrow.Author.Tests.{lt-ltb, le-ltb}
use lib.Dec.{eqb, ltb}
use lib.Pointwise.{pointwise}
use lib.ListN.{length, take, drop, get_or, set, drop_of_length-le, length-drop}
use lib.ListN.{replicate, length-replicate, get_or-replicate}
use lib.Seq.{drop-cons}
use Rattle.std.proofs.lemmas.Bool.{cases_lt}
use Rattle.std.proofs.lemmas.List.{get_or_past, get_or_append_left, get_or-append_right, get_or-drop}
use Rattle.util_defs.specs.Width.{M}
use Rattle.words.specs.Bytes.{word_bytes}
use Rattle.words.proofs.LittleEndian.{more}
use Rattle.recorded_defs.specs.Lines.{bytes_from, digit_of, Number, number, none, end_of, number_from, line, unread, line_from, same_from}

-- the byte before 0, 0, 9, and the byte after 9
pub digit_edges : (digit_of 47 ≡ 10) × (digit_of 48 ≡ 0) × (digit_of 57 ≡ 9) × (digit_of 58 ≡ 10)
digit_edges = (refl, refl, refl, refl)

-- a byte from 48 to 57 is its digit, and no other byte is one
pub digit_within : (b : ℕ) → 48 ≤ b → b ≤ 57 → digit_of b + 48 ≡ b
digit_within b h g = rw (le-ltb b 48 h, le-ltb 57 b g) (omega arith)

pub digit_below : (b : ℕ) → b < 48 → digit_of b ≡ 10
digit_below b h = rw (lt-ltb b 48 h)

pub digit_above : (b : ℕ) → 57 < b → digit_of b ≡ 10
digit_above b h = rw (le-ltb b 48 (omega arith), lt-ltb 57 b h)

-- a number: its end, a digit that is too much, a digit more
module _ (s : List ℕ) (v at : ℕ) (digits : Bool) (h : at < length s) {d : ℕ} (e : d ≡ digit_of (get_or s at 0)) where
  pub number_ends : 9 < d → number_from v digits at (drop at s) ≡ end_of v digits (get_or s at 0) (at + 1)
  unfolding number_from
  number_ends g = rw (drop-cons s at 0 h, sym e, lt-ltb 9 d g)

  pub number_passes : d ≤ 9 → M 64 < v * 10 + d → number_from v digits at (drop at s) ≡ none
  unfolding number_from
  number_passes g p = rw (drop-cons s at 0 h, sym e, le-ltb 9 d g, lt-ltb (M 64) (v * 10 + d) p)

  pub number_on : d ≤ 9 → v * 10 + d ≤ M 64 → number_from v digits at (drop at s) ≡ number_from (v * 10 + d) true (at + 1) (drop (at + 1) s)
  unfolding number_from
  number_on g p = let f : at + 1 ≡ suc at = omega arith in rw (drop-cons s at 0 h, sym e, le-ltb 9 d g, le-ltb (M 64) (v * 10 + d) p, f)

-- past the end there is none
pub number_over : (s : List ℕ) (v at : ℕ) (digits : Bool) → length s ≤ at → number_from v digits at (drop at s) ≡ none
unfolding number_from
number_over s v at digits h = rw (drop_of_length-le s {i = at} h)

-- where a number ends: behind its start, and no further than its bytes go
Behind : ℕ → ℕ → Number → Type 0
Behind at k (number v last next) = (at < next) × (next ≤ at + k)
Behind at k none = Unit {0}

either : (P : Number → Type 0) (b : Bool) {x y : Number} → P x → P y → P (cond b x y)
either P true p q = p
either P false p q = q

further : (at k : ℕ) (x : Number) → Behind (at + 1) k x → Behind at (suc k) x
unfolding Behind
further at k (number v last next) h = (omega (arith, h.0), omega (arith, h.1))
further at k none h = tt

behind : (v at : ℕ) (digits : Bool) (bs : List ℕ) → Behind at (length bs) (number_from v digits at bs)
unfolding number_from Behind
behind v at digits [] = tt
behind v at digits (b ∷ bs) =
    let P = Behind at (suc (length bs)) in
    let here : (at < at + 1) × (at + 1 ≤ at + suc (length bs)) = (omega arith, omega arith) in
    either P (ltb 9 (digit_of b)) (either P digits (either P (eqb b 32) here (either P (eqb b 10) here tt)) tt)
    (either P (ltb (M 64) (v * 10 + digit_of b)) tt (further at (length bs) (number_from (v * 10 + digit_of b) true (at + 1) bs) (behind (v * 10 + digit_of b) (at + 1) true bs)))

pub number_within : (s : List ℕ) (v at : ℕ) (digits : Bool) {n next : ℕ} {last : Bool}
    → number_from v digits at (drop at s) ≡ number n last next → (at < next) × (next ≤ length s)
unfolding Behind
number_within s v at digits {n} {next} {last} e =
    let h : Behind at (length (drop at s)) (number n last next) = subst (Behind at (length (drop at s))) e (behind v at digits (drop at s)) in
    let l : length (drop at s) ≡ length s - at = length-drop at s in
    (h.0, omega (arith, h.0, h.1, l))

-- a line: a number more, its last number, no number, and no room for one
module _ (s ns : List ℕ) (at count : ℕ) where
  pub line_full : 64 ≤ count → line_from (64 - count) s at ns count ≡ unread
  unfolding line_from
  line_full h = let f : 64 - count ≡ 0 = omega arith in rw f

  module _ (h : count < 64) where
    pub line_last : {v next : ℕ} → number_from 0 false at (drop at s) ≡ number v true next
        → line_from (64 - count) s at ns count ≡ line (set ns count v) (count + 1) next
    unfolding line_from
    line_last e = let f : 64 - count ≡ suc (64 - (count + 1)) = omega arith in rw (f, e)

    pub line_on : {v next : ℕ} → number_from 0 false at (drop at s) ≡ number v false next
        → line_from (64 - count) s at ns count ≡ line_from (64 - (count + 1)) s next (set ns count v) (count + 1)
    unfolding line_from
    line_on e = let f : 64 - count ≡ suc (64 - (count + 1)) = omega arith in rw (f, e)

    pub line_off : number_from 0 false at (drop at s) ≡ none → line_from (64 - count) s at ns count ≡ unread
    unfolding line_from
    line_off e = let f : 64 - count ≡ suc (64 - (count + 1)) = omega arith in rw (f, e)

-- numbers of two lists, as slices of them are compared
pub same_slices : (n i j : ℕ) (xs ys : List ℕ) → i + n ≤ length xs → j + n ≤ length ys
    → pointwise eqb (take n (drop i xs)) (take n (drop j ys)) ≡ same_from n xs i ys j
unfolding same_from
same_slices zero i j xs ys h g = refl
same_slices (suc n) i j xs ys h g =
    let a : i + 1 ≡ suc i = omega arith in
    let b : j + 1 ≡ suc j = omega arith in
    let e = eqb (get_or xs i 0) (get_or ys j 0) in
    rw (drop-cons xs i 0 (omega (arith, h)), drop-cons ys j 0 (omega (arith, g)), a, b)
    (ap (λ (r : Bool). e && r) (same_slices n (suc i) (suc j) xs ys (omega (arith, h)) (omega (arith, g))) ∙ both e _)
  where
    both : (e r : Bool) → (e && r) ≡ cond e r false
    both true r = refl
    both false r = refl

-- the bytes of words: one word more, and how many they are
pub bytes_on : (k from : ℕ) (ns : List ℕ) → bytes_from (k + 1) ns from ≡ bytes_from k ns from ++ word_bytes (get_or ns (from + k) 0)
unfolding bytes_from
bytes_on k from ns = let f : k + 1 ≡ suc k = omega arith in rw f

pub bytes_length : (k from : ℕ) (ns : List ℕ) → length (bytes_from k ns from) ≡ k * 8
unfolding bytes_from
bytes_length zero from ns = refl
bytes_length (suc k) from ns = omega (arith, more (bytes_from k ns from) (k * 8) (get_or ns (from + k) 0) (bytes_length k from ns))

-- words of another list, if they are the same
pub bytes_alike : (k i j : ℕ) (ms ns : List ℕ) → ((n : ℕ) → get_or ms (i + n) 0 ≡ get_or ns (j + n) 0)
    → bytes_from k ms i ≡ bytes_from k ns j
unfolding bytes_from
bytes_alike zero i j ms ns same = refl
bytes_alike (suc k) i j ms ns same =
    ap₂ (λ (b : List ℕ) (v : ℕ). b ++ word_bytes v) (bytes_alike k i j ms ns same) (same k)

-- the numbers of a list from one on, moved to a list's start, with zeros behind them
module _ (ns zs : List ℕ) (from m : ℕ) (e : m ≡ min from (length ns)) (zeros : (i : ℕ) → get_or zs i 0 ≡ 0) where
  moved_read : (i : ℕ) → get_or (drop m ns ++ zs) i 0 ≡ get_or ns (from + i) 0
  moved_read i = by_within (cases_lt i (length ns - m))
    where
      by_within : (i < length ns - m) ⊎ (length ns - m ≤ i) → get_or (drop m ns ++ zs) i 0 ≡ get_or ns (from + i) 0
      by_within (inl h) =
          get_or_append_left (drop m ns) zs 0 i (omega (arith, h, length-drop m ns)) ∙ get_or-drop m ns i 0
          ∙ ap (λ (k : ℕ). get_or ns (k + i) 0) (omega (arith, e, h))
      by_within (inr h) =
          get_or-append_right (drop m ns) zs (length ns - m) i 0 (length-drop m ns) h ∙ zeros (i - (length ns - m))
          ∙ sym (get_or_past ns (from + i) 0 (omega (arith, e, h)))

  pub bytes_moved : (k : ℕ) → bytes_from k (drop m ns ++ zs) 0 ≡ bytes_from k ns from
  bytes_moved k =
      bytes_alike k 0 from (drop m ns ++ zs) ns
      (λ i. ap (λ (j : ℕ). get_or (drop m ns ++ zs) j 0) (omega arith) ∙ moved_read i)

pub zeros_left : (z n i : ℕ) → get_or (drop n (replicate {A = ℕ} z 0)) i 0 ≡ 0
zeros_left z n i = get_or-drop n (replicate z 0) i 0 ∙ by_within (cases_lt (n + i) z)
  where
    by_within : (n + i < z) ⊎ (z ≤ n + i) → get_or (replicate {A = ℕ} z 0) (n + i) 0 ≡ 0
    by_within (inl h) = get_or-replicate z (n + i) 0 0 h
    by_within (inr h) = get_or_past (replicate z 0) (n + i) 0 (omega (arith, h, length-replicate {A = ℕ} z 0))
