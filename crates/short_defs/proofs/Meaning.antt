-- What a move means, and that it comes back. Assumes nothing.
use mathlib.Core.Path.{◌≡◌, refl, sym, subst, ap, ◌∙◌}
use mathlib.Core.List.{List, ◌++◌}
use mathlib.Core.Logic.{inl, inr}
use Prim.Native.Nat.{ℕ, suc, ◌+◌, ◌*◌, ◌%◌, ◌≤◌, ◌<◌}
use native.Mathlib.Nat.{suc-mul, mul-le-mul_right, div-add-mod'}
use native.Mathlib.Omega.{arith}
use borrow.Author.Tests.{eqb-true, not-false, ltb-false}
use lib.Dec.{eqb}
use lib.ListN.{length, take, drop, length-append, length-drop}
use lib.Seq.{drop_at, take-append-le, drop-append-le, length-take-le}
use Rattle.util_defs.specs.Refusal.{Outcome, answered, refused, Cause, First, Meets, Decided}
use Rattle.util_defs.specs.Placed.{Placed, reached, stopped, at_place, go_on, judged}
use Rattle.util_defs.proofs.Refusals.{tells_not, tells_eq, tells_lt, meets, refused_means}
use Rattle.util_defs.proofs.Tables.{passed, accepted_none}
use Rattle.words.proofs.LittleEndian.{AllBytes, all_part}
use Rattle.short_defs.specs.Moves.{Way, count_of, record_of, length_causes, tested, moved_all, move_for, moved_for, filled}
use Rattle.short_defs.specs.Trips.{MoveMeans}
use Rattle.short_defs.proofs.Lists.{tested_each, tested_stops, moved_length, moved_record}

-- what the law of a way asks: its lengths, that its tests decide, and what a record that is accepted becomes
pub record Proper (v : Way) (Forms : List ℕ → List ℕ → Type 0) : Type 0 where
  pub positive : 0 < v.from
  pub whole : (s : List ℕ) → length (v.moved s) ≡ v.to
  pub decided : (s : List ℕ) → AllBytes s → Decided (v.causes s)
  pub forms : (s : List ℕ) → AllBytes s → length s ≡ v.from → judged (v.causes s) ≡ answered tt → Forms s (v.moved s)

below : (i n f : ℕ) → i < n → i * f + f ≤ n * f
below i n f h = let m : suc i * f ≤ n * f = mul-le-mul_right f h in omega (arith, suc-mul i f)

module _ (v : Way) (s : List ℕ) (m : ℕ) where
  lengths_decided : Decided (length_causes v s m)
  lengths_decided = (tells_not (tells_eq (length s % v.from) 0), λ _. (tells_lt m (count_of v s * v.to), λ _. tt))

  -- a move by what its tests say
  pub move_lengths : {k : ℕ} → judged (length_causes v s m) ≡ refused k → move_for v s m ≡ stopped k 0
  unfolding move_for
  move_lengths e = ap (λ (o : Outcome (Unit {0})). at_place 0 o (λ _. go_on (tested v 0 (count_of v s) s) (λ _. reached (moved_all v (count_of v s) s)))) e

  pub move_stops : {k i : ℕ} → judged (length_causes v s m) ≡ answered tt → tested v 0 (count_of v s) s ≡ stopped k i → move_for v s m ≡ stopped k i
  unfolding move_for
  move_stops e f =
      ap (λ (o : Outcome (Unit {0})). at_place 0 o (λ _. go_on (tested v 0 (count_of v s) s) (λ _. reached (moved_all v (count_of v s) s)))) e
      ∙ ap (λ (o : Placed (Unit {0})). go_on o (λ _. reached (moved_all v (count_of v s) s))) f

  pub move_goes : judged (length_causes v s m) ≡ answered tt → tested v 0 (count_of v s) s ≡ reached tt → move_for v s m ≡ reached (moved_all v (count_of v s) s)
  unfolding move_for
  move_goes e f =
      ap (λ (o : Outcome (Unit {0})). at_place 0 o (λ _. go_on (tested v 0 (count_of v s) s) (λ _. reached (moved_all v (count_of v s) s)))) e
      ∙ ap (λ (o : Placed (Unit {0})). go_on o (λ _. reached (moved_all v (count_of v s) s))) f

  -- the lengths that pass
  pub record Sized : Type 0 where
    pub list : length s ≡ count_of v s * v.from
    pub room : count_of v s * v.to ≤ m

  pub sized : judged (length_causes v s m) ≡ answered tt → Sized
  sized e =
      let p = passed (length_causes v s m) tt e in
      let z : length s % v.from ≡ 0 = eqb-true (length s % v.from) 0 (not-false (eqb (length s % v.from) 0) p.0) in
      record { list = omega (arith, div-add-mod' (length s) v.from, z); room = ltb-false m (count_of v s * v.to) p.1.0 }

  -- each record is bytes, and whole
  pub record_whole : Sized → (i : ℕ) → i < count_of v s → length (record_of v.from s i) ≡ v.from
  record_whole z i h =
      length-take-le v.from (drop (i * v.from) s)
      (omega (arith, length-drop (i * v.from) s, z.list, below i (count_of v s) v.from h))

-- a refusal table that refuses
refused_first : (cs : List Cause) → Decided cs → {k : ℕ} → judged cs ≡ refused k → First cs k
refused_first cs d e = refused_means (subst (Meets cs (λ _. Unit {0})) e (meets cs tt d (λ _. tt)))

-- a move means what it should
pub move_means : (v : Way) (Forms : List ℕ → List ℕ → Type 0) → Proper v Forms → (s old : List ℕ) → AllBytes s
    → MoveMeans v Forms s old (filled (move_for v s (length old)) old) (moved_for v s (length old))
move_means v Forms p s old h = lengths (judged (length_causes v s (length old))) refl
  where
    Means : Placed (List ℕ) → Type 0
    Means r = MoveMeans v Forms s old (filled r old) (go_on r (λ bs. reached (length bs)))

    moves : judged (length_causes v s (length old)) ≡ answered tt → tested v 0 (count_of v s) s ≡ reached tt → Means (reached (moved_all v (count_of v s) s))
    moves e f =
        let bs = moved_all v (count_of v s) s in
        let z = sized v s (length old) e in
        let l : length bs ≡ count_of v s * v.to = moved_length v p.whole (count_of v s) s in
        record {
          fits = accepted_none (length_causes v s (length old)) tt (lengths_decided v s (length old)) e;
          written = l;
          each = λ i g. subst (Forms (record_of v.from s i)) (sym (part i g)) (p.forms (record_of v.from s i) (all_part v.from s (i * v.from) h) (record_whole v s (length old) z i g) (tested_each v 0 (count_of v s) s f i g));
          tail = drop_at bs (drop (length bs) old) (length bs) refl;
          whole = omega (arith, length-append bs (drop (length bs) old), length-drop (length bs) old, l, z.room);
        }
      where
        part : (i : ℕ) → i < count_of v s → record_of v.to (moved_all v (count_of v s) s ++ drop (length (moved_all v (count_of v s) s)) old) i ≡ v.moved (record_of v.from s i)
        part i g =
            let bs = moved_all v (count_of v s) s in
            let t = v.to in
            let l : length bs ≡ count_of v s * t = moved_length v p.whole (count_of v s) s in
            let b = below i (count_of v s) t g in
            ap (take t) (drop-append-le (i * t) bs (drop (length bs) old) (omega arith))
            ∙ take-append-le t (drop (i * t) bs) (drop (length bs) old) (omega (arith, length-drop (i * t) bs))
            ∙ moved_record v p.whole (count_of v s) s i g

    scan : judged (length_causes v s (length old)) ≡ answered tt → (t : Placed (Unit {0})) → tested v 0 (count_of v s) s ≡ t → Means (move_for v s (length old))
    scan e (reached tt) f = subst Means (sym (move_goes v s (length old) e f)) (moves e f)
    scan e (stopped k i) f =
        let x = tested_stops v 0 (count_of v s) s k i f in
        subst Means (sym (move_stops v s (length old) e f)) (
          inr (
            accepted_none (length_causes v s (length old)) tt (lengths_decided v s (length old)) e,
            record {
              within = omega (arith, x.place, x.within);
              before = λ j g. accepted_none (v.causes (record_of v.from s j)) tt (p.decided (record_of v.from s j) (all_part v.from s (j * v.from) h)) (x.before j (omega (arith, x.place)));
              first = subst (λ (q : ℕ). First (v.causes (record_of v.from s q)) k) (omega (arith, x.place)) (refused_first (v.causes (record_of v.from s x.index)) (p.decided (record_of v.from s x.index) (all_part v.from s (x.index * v.from) h)) x.there);
            },
          ),
          refl,
        )

    lengths : (o : Outcome (Unit {0})) → judged (length_causes v s (length old)) ≡ o → Means (move_for v s (length old))
    lengths (answered tt) e = scan e (tested v 0 (count_of v s) s) refl
    lengths (refused k) e = subst Means (sym (move_lengths v s (length old) e)) (inl (refused_first (length_causes v s (length old)) (lengths_decided v s (length old)) e, refl), refl)
