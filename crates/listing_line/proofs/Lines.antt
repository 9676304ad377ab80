-- Laws of decimal digits and of a line of them. Assumes nothing.
use mathlib.Core.Path.{◌≡◌, refl, sym, ap, subst, ◌∙◌}
use mathlib.Core.Bool.{Bool, true, false, cond}
use mathlib.Core.List.{List, [], ◌∷◌, ◌++◌}
use Prim.Native.Nat.{ℕ, zero, suc, ◌+◌, ◌-◌, ◌/◌, ◌%◌, ◌^◌, ◌≤◌, ◌<◌}
use native.Mathlib.Nat.{pow-succ'}
use native.Mathlib.Omega.{arith}
use borrow.Author.Tests.{lt-ltb, le-ltb, ltb-false}
use lib.Dec.{ltb}
use lib.ListN.{length, set, drop, length-append}
use lib.Seq.{sets, sets-eq, length-sets, length-take-le}
use Rattle.io.specs.Counts.{IsPrefixLen}
use Rattle.compose_defs.specs.Compose.{Composed, refused_at, ported, struct_for}
use Rattle.words.proofs.LittleEndian.{sets_sets}
use Rattle.listing_line.specs.Line.{digits_of, decimal, line_of, list_for, line_length, line_into}

pub digits_one : (k n : ℕ) → 0 < k → n < 10 → digits_of k n ≡ (48 + n) ∷ []
digits_one zero n p h = absurd (omega arith)
digits_one (suc k) n p h = simp (lt-ltb n 10 h)

pub digits_more : (k n : ℕ) → 0 < k → 10 ≤ n → digits_of k n ≡ digits_of (k - 1) (n / 10) ++ ((48 + n % 10) ∷ [])
digits_more zero n p h = absurd (omega arith)
digits_more (suc k) n p h = let e : suc k - 1 ≡ k = omega arith in rw (e, le-ltb n 10 h)

short : (b : Bool) (k x y : ℕ) (l : List ℕ) → length l ≤ k → length (cond b (x ∷ []) (l ++ (y ∷ []))) ≤ suc k
short true k x y l h = omega arith
short false k x y l h = omega (arith, length-append l (y ∷ []))

pub digits_length : (k n : ℕ) → length (digits_of k n) ≤ k
digits_length zero n = omega arith
digits_length (suc k) n = short (ltb n 10) k (48 + n) (48 + n % 10) (digits_of k (n / 10)) (digits_length k (n / 10))

-- a tenth of a number has a digit less
pub fewer : (k n : ℕ) → n < 10 ^ k → 10 ≤ n → (n / 10 < 10 ^ (k - 1)) × (0 < k - 1)
fewer zero n h g = absurd (omega arith)
fewer (suc zero) n h g = absurd (omega arith)
fewer (suc (suc k)) n h g =
    let e : suc (suc k) - 1 ≡ suc k = omega arith in
    rw e (omega (arith, pow-succ' 10 (suc k)), omega arith)

-- room for more digits than a number has changes nothing
same : (k j n : ℕ) → 0 < k → 0 < j → n < 10 ^ k → n < 10 ^ j → digits_of k n ≡ digits_of j n
same zero j n p q h g = absurd (omega arith)
same (suc k) zero n p q h g = absurd (omega arith)
same (suc k) (suc j) n p q h g = go (ltb n 10) refl (λ a b. same k j (n / 10) a.1 b.1 a.0 b.0)
  where
    less : (i : ℕ) → n < 10 ^ suc i → 10 ≤ n → (n / 10 < 10 ^ i) × (0 < i)
    less i h l = let e : suc i - 1 ≡ i = omega arith in subst (λ (x : ℕ). (n / 10 < 10 ^ x) × (0 < x)) e (fewer (suc i) n h l)

    go : (b : Bool) → ltb n 10 ≡ b → ((n / 10 < 10 ^ k) × (0 < k) → (n / 10 < 10 ^ j) × (0 < j) → digits_of k (n / 10) ≡ digits_of j (n / 10))
        → cond b ((48 + n) ∷ []) (digits_of k (n / 10) ++ ((48 + n % 10) ∷ [])) ≡ cond b ((48 + n) ∷ []) (digits_of j (n / 10) ++ ((48 + n % 10) ∷ []))
    go true e f = refl
    go false e f =
        let l = ltb-false n 10 e in
        ap (λ (d : List ℕ). d ++ ((48 + n % 10) ∷ [])) (f (less k h l) (less j g l))

below : (n : ℕ) → n < 10 ^ suc n
below zero = omega arith
below (suc n) = omega (arith, pow-succ' 10 (suc n), below n)

pub decimal_as : (k n : ℕ) → 0 < k → n < 10 ^ k → digits_of k n ≡ decimal n
unfolding decimal
decimal_as k n p h = same k (suc n) n p (omega arith) h (below n)

-- one byte more behind a run
pub one_more : (out last D : List ℕ) (at next c : ℕ) → next ≡ at + length D → last ≡ sets out at D → (next + 1 ≡ at + length (D ++ (c ∷ []))) × (set last next c ≡ sets out at (D ++ (c ∷ [])))
one_more out last D at next c e f = (omega (arith, length-append D (c ∷ [])), rw f (sets_sets D (c ∷ []) out at next e))

-- a run behind a run that begins at 0
pub joined : (l x y D E : List ℕ) (p q : ℕ) → (p ≡ length D) × (x ≡ sets l 0 D) → (q ≡ p + length E) × (y ≡ sets x p E) → (q ≡ length (D ++ E)) × (y ≡ sets l 0 (D ++ E))
joined l x y D E p q f g = (omega (arith, length-append D E, f.0, g.0), g.1 ∙ rw f.1 (sets_sets D E l 0 p (omega (arith, f.0))))

pub begun : (l x D : List ℕ) (p : ℕ) → (p ≡ 0 + length D) × (x ≡ sets l 0 D) → (p ≡ length D) × (x ≡ sets l 0 D)
begun l x D p f = (omega (arith, f.0), f.1)

-- a list that is too long, and one that is not
pub list_long : (w : ℕ) (s : List ℕ) → 65520 < length s → list_for w s ≡ refused_at 20 0
unfolding list_for
list_long w s h = rw (lt-ltb 65520 (length s) h)

pub list_taken : (w : ℕ) (s : List ℕ) → length s ≤ 65520 → list_for w s ≡ struct_for w ported 0 0 s
unfolding list_for
list_taken w s h = rw (le-ltb 65520 (length s) h)

counts : (r : ℕ) (x : List ℕ) → r ≤ length x → IsPrefixLen r x
counts r x h = (h, sym (length-take-le r x h))

-- what a call leaves where there is no room, and where the line was written
pub no_room : (w : ℕ) (s old : List ℕ) → length old < 126 → (0 ≡ line_length w s old) × ((old ≡ line_into w s old) × IsPrefixLen 0 old)
no_room w s old h = (rw (lt-ltb (length old) 126 h), (rw (lt-ltb (length old) 126 h), counts 0 old (omega arith)))

pub written : (w : ℕ) (s old x : List ℕ) (c : Composed) (r : ℕ) → 126 ≤ length old → c ≡ list_for w s
    → (r ≡ length (line_of c)) × (x ≡ sets old 0 (line_of c)) → r ≤ 126
    → (r ≡ line_length w s old) × ((x ≡ line_into w s old) × IsPrefixLen r x)
written w s old x c r h e f g =
    let z : 0 + length (line_of c) ≡ length (line_of c) = omega arith in
    let b : 0 + length (line_of c) ≤ length old = omega (arith, f.0) in
    let y : sets old 0 (line_of c) ≡ line_of c ++ drop (length (line_of c)) old = rw z at (sets-eq (line_of c) old 0 b) in
    let m : length x ≡ length old = ap length f.1 ∙ length-sets old 0 (line_of c) in
    (rw (le-ltb (length old) 126 h, sym e) f.0, (rw (le-ltb (length old) 126 h, sym e) (f.1 ∙ y), counts r x (omega (arith, m))))
