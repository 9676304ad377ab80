-- The two ways are proper, so that each move means what it should. Assumes nothing.
use mathlib.Core.Path.{◌≡◌, refl, sym, subst, ap}
use mathlib.Core.Bool.{Bool, true, false}
use mathlib.Core.List.{List, [], ◌∷◌}
use Prim.Native.Nat.{ℕ, ◌*◌, ◌/◌, ◌%◌, ◌<◌, ◌≤◌}
use native.Mathlib.Nat.{le-div_iff_mul-le}
use native.Mathlib.Omega.{arith}
use borrow.Author.Tests.{lt-ltb, le-ltb, eq-eqb, ne_eqb, ltb-true, ltb-false}
use lib.Dec.{ltb}
use lib.ListN.{length}
use Rattle.util_defs.specs.Refusal.{answered, unless, Decided}
use Rattle.util_defs.specs.Placed.{Placed, reached, stopped, go_on, judged}
use Rattle.util_defs.specs.Width.{M}
use Rattle.util_defs.proofs.Refusals.{tells_not, tells_eq, tells_lt, tells_or, tells_and}
use Rattle.util_defs.proofs.Tables.{decided_both}
use Rattle.words.proofs.LittleEndian.{AllBytes, part_below}
use Rattle.record_defs.specs.Record.{words_at, words_causes}
use Rattle.record_defs.proofs.Records.{later_decided, words_decided, record_length_lem}
use Rattle.short_defs.specs.Short.{Short, short_at, short_of, words_from, word_above, from_short_causes}
use Rattle.short_defs.specs.Moves.{Way, to_short, from_short, count_of, length_causes, tested, moved_all, move_for, moved_for, filled}
use Rattle.short_defs.specs.Trips.{Shortened, Widened, MoveMeans}
use Rattle.short_defs.proofs.Fields.{short_length_lem}
use Rattle.short_defs.proofs.Records.{short_forms, wide_forms}
use Rattle.short_defs.proofs.Meaning.{Proper, move_means, move_lengths, move_stops, move_goes}

short_decided : (r : Short) → Decided (from_short_causes r)
short_decided r =
    (tells_lt 7 r.kind, λ _. (tells_or (tells_not (tells_eq r.spare 0)) (tells_lt 63 r.power), λ _. (later_decided (words_from r), λ _. (tells_and (tells_not (tells_eq (r.kind / 2 % 2) 0)) (tells_eq r.word 0), λ _. tt))))

pub short_proper : Proper to_short Shortened
short_proper = record {
  positive = omega arith;
  whole = λ s. short_length_lem (short_of (words_at s 0));
  decided = λ s h. decided_both (words_causes 64 (words_at s 0)) (word_above (words_at s 0).word ∷ []) (words_decided 64 (words_at s 0) (omega (arith, part_below 8 s 0 h))) (λ _. (tells_lt (M 32) (words_at s 0).word, λ _. tt));
  forms = short_forms;
}

pub wide_proper : Proper from_short Widened
wide_proper = record {
  positive = omega arith;
  whole = λ s. record_length_lem (words_from (short_at s 0));
  decided = λ s h. short_decided (short_at s 0);
  forms = wide_forms;
}

-- what a move is told to be, it means
pub move_told : (v : Way) (Forms : List ℕ → List ℕ → Type 0) → Proper v Forms → (s old : List ℕ) → AllBytes s → {a : Placed ℕ} {new : List ℕ}
    → a ≡ moved_for v s (length old) → new ≡ filled (move_for v s (length old)) old
    → (a ≡ moved_for v s (length old)) × ((new ≡ filled (move_for v s (length old)) old) × MoveMeans v Forms s old new a)
move_told v Forms p s old h {a} {new} e f =
    (e, (f, subst (λ (z : Placed ℕ). MoveMeans v Forms s old new z) (sym e) (subst (λ (z : List ℕ). MoveMeans v Forms s old z (moved_for v s (length old))) (sym f) (move_means v Forms p s old h))))

-- a move by what the code tests
module _ (v : Way) (s old : List ℕ) where
  -- what comes back and what the output holds, where the move is r
  abbrev Is : Placed (List ℕ) → Type 0
  Is r = (go_on r (λ bs. reached (length bs)) ≡ moved_for v s (length old)) × (filled r old ≡ filled (move_for v s (length old)) old)

  is_so : {r : Placed (List ℕ)} → move_for v s (length old) ≡ r → Is r
  is_so e = (ap (λ (r : Placed (List ℕ)). go_on r (λ bs. reached (length bs))) (sym e), ap (λ (r : Placed (List ℕ)). filled r old) (sym e))

  pub is_stopped : {k i : ℕ} → judged (length_causes v s (length old)) ≡ answered tt → tested v 0 (count_of v s) s ≡ stopped k i → Is (stopped k i)
  is_stopped e f = is_so (move_stops v s (length old) e f)

  pub is_moved : judged (length_causes v s (length old)) ≡ answered tt → tested v 0 (count_of v s) s ≡ reached tt → Is (reached (moved_all v (count_of v s) s))
  is_moved e f = is_so (move_goes v s (length old) e f)

  pub is_uneven : (length s % v.from ≡ 0 → ⊥) → Is (stopped 20 0)
  unfolding unless
  is_uneven h = is_so (move_lengths v s (length old) (simp (ne_eqb (length s % v.from) 0 h)))

  -- lengths are compared by a division
  pub is_short : 0 < v.to → length s % v.from ≡ 0 → length old / v.to < count_of v s → Is (stopped 41 0)
  unfolding unless
  is_short p h g = is_so (move_lengths v s (length old) (simp (eq-eqb (length s % v.from) 0 h, lt-ltb (length old) (count_of v s * v.to) (room p g))))
    where
      room : 0 < v.to → length old / v.to < count_of v s → length old < count_of v s * v.to
      room p g = below (ltb (length old) (count_of v s * v.to)) refl
        where
          below : (b : Bool) → ltb (length old) (count_of v s * v.to) ≡ b → length old < count_of v s * v.to
          below true e = ltb-true (length old) (count_of v s * v.to) e
          below false e = absurd (omega (arith, g, (le-div_iff_mul-le p).1 (ltb-false (length old) (count_of v s * v.to) e)))

  pub fits_room : 0 < v.to → length s % v.from ≡ 0 → count_of v s ≤ length old / v.to → judged (length_causes v s (length old)) ≡ answered tt
  unfolding unless
  fits_room p h g = simp (eq-eqb (length s % v.from) 0 h, le-ltb (length old) (count_of v s * v.to) ((le-div_iff_mul-le p).0 g))
