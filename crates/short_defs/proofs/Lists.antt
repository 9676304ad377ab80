-- Lists of records moved one way: what stops them, what they become, and how the code's loops go. Assumes nothing.
use mathlib.Core.Path.{◌≡◌, refl, sym, ap, ◌∙◌}
use mathlib.Core.List.{List, ◌++◌, append-nil, append_assoc}
use Prim.Native.Nat.{ℕ, zero, suc, ◌+◌, ◌-◌, ◌*◌, ◌/◌, ◌≤◌, ◌<◌}
use native.Mathlib.Nat.{suc-mul, mul-le-mul_right, div-mul-le_self, add-div_right}
use native.Mathlib.Omega.{arith}
use lib.ListN.{length, take, drop, length-append, length-drop}
use lib.Seq.{take_at, drop_at, drop-drop, length-take-le}
use Rattle.util_defs.specs.Refusal.{Outcome, answered, refused}
use Rattle.util_defs.specs.Placed.{Placed, reached, stopped, at_place, judged}
use Rattle.short_defs.specs.Moves.{Way, record_of, tested, moved_all, filled}

pub not_stopped : {T : Type 0} {x : T} {k i : ℕ} → stopped k i ≡ reached x → ⊥
not_stopped {T} {x} {k} {i} e = let z : ◌≡◌ {A = ℕ} 0 1 = ap told e in omega arith
  where
    told : Placed T → ℕ
    told (reached x) = 1
    told (stopped k i) = 0

-- the record with the index i + 1 of a list is that with the index i behind its first
pub next_record : (f : ℕ) (s : List ℕ) (i : ℕ) → record_of f s (suc i) ≡ record_of f (drop f s) i
next_record f s i =
    let e : f + i * f ≡ suc i * f = omega (arith, suc-mul i f) in
    ap (take f) (ap (λ (k : ℕ). drop k s) (sym e) ∙ sym (drop-drop (i * f) f s))

pub first_record : (f : ℕ) (s : List ℕ) → record_of f s 0 ≡ take f s
first_record f s = let e : 0 * f ≡ 0 = omega arith in ap (λ (k : ℕ). take f (drop k s)) e

-- the record that the code looks at is the part of the list from i·n on to n bytes behind that
pub looked : (n i : ℕ) (s : List ℕ) → take (i * n + n - i * n) (drop (i * n) s) ≡ record_of n s i
looked n i s = let e : i * n + n - i * n ≡ n = omega arith in ap (λ (k : ℕ). take k (drop (i * n) s)) e

pub looked_length : (n i : ℕ) (s : List ℕ) → i * n + n ≤ length s → length (take (i * n + n - i * n) (drop (i * n) s)) ≡ n
looked_length n i s h = ap length (looked n i s) ∙ length-take-le n (drop (i * n) s) (omega (arith, length-drop (i * n) s))

-- a record that a list has ends within it
pub record_within : (f i : ℕ) (s : List ℕ) → i < length s / f → i * f + f ≤ length s
record_within f i s h = let m : suc i * f ≤ length s / f * f = mul-le-mul_right f h in omega (arith, suc-mul i f, div-mul-le_self (length s) f)

-- one behind which t stands is one more than t has
pub one_more : (f : ℕ) {s : List ℕ} (x t : List ℕ) → 0 < f → s ≡ x ++ t → length x ≡ f → length s / f ≡ suc (length t / f)
one_more f {s} x t p e l =
    ap (λ (n : ℕ). n / f) (ap length e ∙ length-append x t ∙ omega (arith, l)) ∙ add-div_right (length t) p ∙ omega arith

module _ (v : Way) where
  -- a list that nothing stops: each of its records is accepted
  pub tested_each : (i n : ℕ) (s : List ℕ) → tested v i n s ≡ reached tt → (j : ℕ) → j < n → judged (v.causes (record_of v.from s j)) ≡ answered tt
  unfolding tested
  tested_each i zero s e j h = absurd (omega arith)
  tested_each i (suc n) s e j h = go (judged (v.causes (take v.from s))) refl e j h (λ u. tested_each (suc i) n (drop v.from s) u)
    where
      go : (o : Outcome (Unit {0})) → judged (v.causes (take v.from s)) ≡ o → at_place i o (λ _. tested v (suc i) n (drop v.from s)) ≡ reached tt
          → (j : ℕ) → j < suc n → (tested v (suc i) n (drop v.from s) ≡ reached tt → (j : ℕ) → j < n → judged (v.causes (record_of v.from (drop v.from s) j)) ≡ answered tt)
          → judged (v.causes (record_of v.from s j)) ≡ answered tt
      go (answered tt) t e zero h rec = ap (λ (x : List ℕ). judged (v.causes x)) (first_record v.from s) ∙ t
      go (answered tt) t e (suc j) h rec = ap (λ (x : List ℕ). judged (v.causes x)) (next_record v.from s j) ∙ rec e j (omega arith)
      go (refused k) t e j h rec = absurd (not_stopped e)

  -- one that stops at p: the records before are accepted, that one is not
  pub record StopsAt (i n : ℕ) (s : List ℕ) (k p : ℕ) : Type 0 where
    pub index : ℕ
    pub place : p ≡ i + index
    pub within : index < n
    pub before : (j : ℕ) → j < index → judged (v.causes (record_of v.from s j)) ≡ answered tt
    pub there : judged (v.causes (record_of v.from s index)) ≡ refused k

  pub tested_stops : (i n : ℕ) (s : List ℕ) (k p : ℕ) → tested v i n s ≡ stopped k p → StopsAt i n s k p
  unfolding tested
  tested_stops i zero s k p e = absurd (not_stopped (sym e))
  tested_stops i (suc n) s k p e = go (judged (v.causes (take v.from s))) refl e (tested_stops (suc i) n (drop v.from s) k p)
    where
      go : (o : Outcome (Unit {0})) → judged (v.causes (take v.from s)) ≡ o → at_place i o (λ _. tested v (suc i) n (drop v.from s)) ≡ stopped k p
          → (tested v (suc i) n (drop v.from s) ≡ stopped k p → StopsAt (suc i) n (drop v.from s) k p) → StopsAt i (suc n) s k p
      go (answered tt) t e rec =
          let r = rec e in
          record {
            index = suc r.index;
            place = omega (arith, r.place);
            within = omega (arith, r.within);
            before = earlier r.before;
            there = ap (λ (x : List ℕ). judged (v.causes x)) (next_record v.from s r.index) ∙ r.there;
          }
        where
          earlier : {m : ℕ} → ((j : ℕ) → j < m → judged (v.causes (record_of v.from (drop v.from s) j)) ≡ answered tt)
              → (j : ℕ) → j < suc m → judged (v.causes (record_of v.from s j)) ≡ answered tt
          earlier b zero h = ap (λ (x : List ℕ). judged (v.causes x)) (first_record v.from s) ∙ t
          earlier b (suc j) h = ap (λ (x : List ℕ). judged (v.causes x)) (next_record v.from s j) ∙ b j (omega arith)
      go (refused z) t e rec =
          let same : stopped z i ≡ stopped k p = e in
          record {
            index = 0;
            place = omega (arith, ap place_in same);
            within = omega arith;
            before = λ j h. absurd (omega arith);
            there = ap (λ (x : List ℕ). judged (v.causes x)) (first_record v.from s) ∙ t ∙ ap refused (ap number_in same);
          }
        where
          place_in : Placed (Unit {0}) → ℕ
          place_in (reached x) = 0
          place_in (stopped k i) = i

          number_in : Placed (Unit {0}) → ℕ
          number_in (reached x) = 0
          number_in (stopped k i) = k

  -- one turn of the loop that tests: x is the record that comes, t the records behind it
  test_first : (i : ℕ) {s : List ℕ} (x t : List ℕ) → s ≡ x ++ t → length x ≡ v.from → length s / v.from ≡ suc (length t / v.from)
      → tested v i (length s / v.from) s ≡ at_place i (judged (v.causes x)) (λ _. tested v (suc i) (length t / v.from) t)
  unfolding tested
  test_first i {s} x t e l n =
      ap (λ (k : ℕ). tested v i k s) n
      ∙ ap (λ (z : List ℕ). at_place i (judged (v.causes z)) (λ _. tested v (suc i) (length t / v.from) (drop v.from s))) (ap (take v.from) e ∙ take_at x t v.from l)
      ∙ ap (λ (z : List ℕ). at_place i (judged (v.causes x)) (λ _. tested v (suc i) (length t / v.from) z)) (ap (drop v.from) e ∙ drop_at x t v.from l)

  pub test_on : (i : ℕ) {j : ℕ} {s : List ℕ} (x t : List ℕ) → s ≡ x ++ t → length x ≡ v.from → length s / v.from ≡ suc (length t / v.from) → j ≡ i + 1
      → judged (v.causes x) ≡ answered tt → tested v i (length s / v.from) s ≡ tested v j (length t / v.from) t
  test_on i {j} x t e l n g h =
      let k : suc i ≡ j = omega (arith, g) in
      test_first i x t e l n
      ∙ ap (λ (o : Outcome (Unit {0})). at_place i o (λ _. tested v (suc i) (length t / v.from) t)) h
      ∙ ap (λ (k : ℕ). tested v k (length t / v.from) t) k

  pub test_off : (i : ℕ) {s : List ℕ} (x t : List ℕ) {k : ℕ} → s ≡ x ++ t → length x ≡ v.from → length s / v.from ≡ suc (length t / v.from)
      → judged (v.causes x) ≡ refused k → tested v i (length s / v.from) s ≡ stopped k i
  test_off i x t e l n h = test_first i x t e l n ∙ ap (λ (o : Outcome (Unit {0})). at_place i o (λ _. tested v (suc i) (length t / v.from) t)) h

  pub test_end : (i n : ℕ) (s : List ℕ) → n ≡ 0 → tested v i n s ≡ reached tt
  unfolding tested
  test_end i n s h = rw h

  -- what is moved, where each moved record has as many bytes as it should
  module _ (whole : (s : List ℕ) → length (v.moved s) ≡ v.to) where
    pub moved_length : (n : ℕ) (s : List ℕ) → length (moved_all v n s) ≡ n * v.to
    unfolding moved_all
    moved_length zero s = omega arith
    moved_length (suc n) s =
        omega (arith, length-append (v.moved (take v.from s)) (moved_all v n (drop v.from s)), whole (take v.from s), moved_length n (drop v.from s), suc-mul n v.to)

    -- its record with the index j is that of the list, moved
    pub moved_record : (n : ℕ) (s : List ℕ) (j : ℕ) → j < n → record_of v.to (moved_all v n s) j ≡ v.moved (record_of v.from s j)
    unfolding moved_all
    moved_record zero s j h = absurd (omega arith)
    moved_record (suc n) s zero h =
        first_record v.to (v.moved (take v.from s) ++ moved_all v n (drop v.from s))
        ∙ take_at (v.moved (take v.from s)) (moved_all v n (drop v.from s)) v.to (whole (take v.from s))
        ∙ ap v.moved (sym (first_record v.from s))
    moved_record (suc n) s (suc j) h =
        next_record v.to (v.moved (take v.from s) ++ moved_all v n (drop v.from s)) j
        ∙ ap (λ (x : List ℕ). record_of v.to x j) (drop_at (v.moved (take v.from s)) (moved_all v n (drop v.from s)) v.to (whole (take v.from s)))
        ∙ moved_record n (drop v.from s) j (omega arith)
        ∙ ap v.moved (sym (next_record v.from s j))

    -- one record more
    pub moved_more : (n : ℕ) (s : List ℕ) → moved_all v (suc n) s ≡ moved_all v n s ++ v.moved (record_of v.from s n)
    unfolding moved_all
    moved_more zero s = append-nil (v.moved (take v.from s)) ∙ ap v.moved (sym (first_record v.from s))
    moved_more (suc n) s =
        ap (λ (x : List ℕ). v.moved (take v.from s) ++ x) (moved_more n (drop v.from s) ∙ ap (λ (x : List ℕ). moved_all v n (drop v.from s) ++ v.moved x) (sym (next_record v.from s n)))
        ∙ sym (append_assoc (v.moved (take v.from s)) (moved_all v n (drop v.from s)) (v.moved (record_of v.from s (suc n))))

    -- the loop that writes: behind the records moved so far the output is as it was
    pub record Writing (n i : ℕ) (s old out : List ℕ) : Type 0 where
      pub upto : i ≤ n
      pub so_far : out ≡ moved_all v i s ++ drop (i * v.to) old

    pub writing_begins : (n : ℕ) (s old : List ℕ) → Writing n 0 s old old
    unfolding moved_all
    writing_begins n s old = let e : 0 * v.to ≡ 0 = omega arith in record { upto = omega arith; so_far = ap (λ (k : ℕ). drop k old) (sym e) }

    pub writing_length : {n i : ℕ} {s old out : List ℕ} → n * v.to ≤ length old → Writing n i s old out → length out ≡ length old
    writing_length {n} {i} {s} {old} {out} h x =
        let m : i * v.to ≤ n * v.to = mul-le-mul_right v.to x.upto in
        ap length x.so_far ∙ omega (arith, length-append (moved_all v i s) (drop (i * v.to) old), length-drop (i * v.to) old, moved_length i s)

    pub writing_on : {n i : ℕ} (s old : List ℕ) {out part : List ℕ} (k : ℕ) → i < n → k ≡ v.to → part ≡ v.moved (record_of v.from s i)
        → Writing n i s old out → Writing n (i + 1) s old (take (i * v.to) out ++ (part ++ drop k (drop (i * v.to) out)))
    writing_on {n} {i} s old {out} {part} k h q g x =
        let P = moved_all v i s in
        let b = v.moved (record_of v.from s i) in
        let t = v.to in
        let D = drop (i * t) old in
        let lp : length P ≡ i * t = moved_length i s in
        let en : i * t + k ≡ suc i * t = omega (arith, q, suc-mul i t) in
        let on : suc i ≡ i + 1 = omega arith in
        record {
          upto = omega arith;
          so_far =
              ap (λ (z : List ℕ). take (i * t) z ++ (part ++ drop k (drop (i * t) z))) x.so_far
              ∙ ap (λ (z : List ℕ). z ++ (part ++ drop k (drop (i * t) (P ++ D)))) (take_at P D (i * t) lp)
              ∙ ap (λ (z : List ℕ). P ++ (z ++ drop k (drop (i * t) (P ++ D)))) g
              ∙ ap (λ (z : List ℕ). P ++ (b ++ z)) (ap (drop k) (drop_at P D (i * t) lp) ∙ drop-drop k (i * t) old ∙ ap (λ (z : ℕ). drop z old) en)
              ∙ sym (append_assoc P b (drop (suc i * t) old))
              ∙ ap (λ (z : List ℕ). z ++ drop (suc i * t) old) (sym (moved_more i s))
              ∙ ap (λ (z : ℕ). moved_all v z s ++ drop (z * t) old) on;
        }

    pub writing_ends : {n i : ℕ} (s old : List ℕ) {out : List ℕ} → n ≤ i → Writing n i s old out → out ≡ filled (reached (moved_all v n s)) old
    writing_ends {n} {i} s old h x =
        let e : i ≡ n = omega (arith, x.upto) in
        x.so_far ∙ ap (λ (z : ℕ). moved_all v z s ++ drop (z * v.to) old) e
        ∙ ap (λ (z : ℕ). moved_all v n s ++ drop z old) (sym (moved_length n s))
