-- What a move means leaves one answer and one output. Assumes nothing.
use mathlib.Core.Path.{◌≡◌, refl, sym, subst, ap, ◌∙◌}
use mathlib.Core.Bool.{Bool, true, false}
use mathlib.Core.List.{List, [], ◌∷◌, ◌++◌}
use mathlib.Core.Logic.{inl, inr}
use Prim.Native.Nat.{ℕ, zero, suc, ◌+◌, ◌*◌, ◌<◌}
use native.Mathlib.Nat.{suc-mul}
use native.Mathlib.Omega.{arith}
use borrow.Author.Tests.{ltb-true, ltb-false, not-false, eqb-true}
use lib.Dec.{eqb, ltb}
use lib.ListN.{length, take, drop, take-append-drop}
use lib.Seq.{drop-drop}
use Rattle.util_defs.specs.Refusal.{answered, None, First, Meets}
use Rattle.util_defs.specs.Placed.{Placed, reached, stopped}
use Rattle.util_defs.proofs.Refusals.{answered_means, one_number, no_number}
use Rattle.util_defs.proofs.Tables.{passed, both_none}
use Rattle.words.proofs.LittleEndian.{AllBytes, all_part, part_below}
use Rattle.layout_defs.specs.Layout.{Layout}
use Rattle.record_defs.specs.Record.{Words, words_of, words_at, words_layout, words_causes, record_bytes, own_causes, own_for, Decodes}
use Rattle.record_defs.proofs.Records.{own_meets}
use Rattle.record_defs.proofs.RoundTrips.{own_back}
use Rattle.short_defs.specs.Short.{Short, short_at, short_bytes, short_of, words_from, word_above, decode_short_causes, decode_short_for, DecodesShort}
use Rattle.short_defs.specs.Moves.{Way, to_short, from_short, count_of, record_of, length_causes}
use Rattle.short_defs.specs.Trips.{Shortened, Widened, Stops, Moves, MoveMeans}
use Rattle.short_defs.proofs.Fields.{short_bytes_back}
use Rattle.short_defs.proofs.Told.{decode_short_meets}
use Rattle.short_defs.proofs.Lists.{first_record, next_record}

-- what the law asks of a way: one form of a record, and none of one that is refused
pub record Pinned (v : Way) (Forms : List ℕ → List ℕ → Type 0) : Type 1 where
  pub unique : (s t t' : List ℕ) → AllBytes t → AllBytes t' → Forms s t → Forms s t' → t ≡ t'
  pub accepts : (s t : List ℕ) → AllBytes s → AllBytes t → Forms s t → None (v.causes s)

same_answer : {l m : Layout} → answered l ≡ answered m → l ≡ m
same_answer e = cc

-- a short record that decodes: its bytes are those of the layout's short form
short_whole : (s : List ℕ) {l : Layout} → decode_short_for s ≡ answered l → length s ≡ 32
unfolding decode_short_for
short_whole s e = eqb-true (length s) 32 (not-false (eqb (length s) 32) (passed (decode_short_causes s) (words_layout (words_from (short_at s 0))) e).0)

short_is : (s : List ℕ) {l : Layout} → AllBytes s → decode_short_for s ≡ answered l → short_bytes (short_of (words_of l)) ≡ s
short_is s {l} h e =
    ap short_bytes (answered_means (subst (Meets (decode_short_causes s) (DecodesShort s)) e (decode_short_meets s))).1
    ∙ short_bytes_back s h (short_whole s e)

means_old : (s : List ℕ) {l : Layout} → AllBytes s → own_for s ≡ answered l → None (own_causes s) × Decodes (words_at s 0) l
means_old s h e = answered_means (subst (Meets (own_causes s) (Decodes (words_at s 0))) e (own_meets s (omega (arith, part_below 8 s 0 h))))

pub short_pinned : Pinned to_short Shortened
short_pinned = record {
  unique = λ s t t' h g a b. sym (short_is t h a.of_short) ∙ ap (λ (l : Layout). short_bytes (short_of (words_of l))) (same_answer (sym a.of_old ∙ b.of_old)) ∙ short_is t' g b.of_short;
  accepts = λ s t h g a.
      let x = means_old s h a.of_old in
      let w : (words_at s 0).word ≡ (short_at t 0).word = ap (λ (r : Words). r.word) (sym x.1) ∙ ap (λ (r : Short). r.word) (answered_means (subst (Meets (decode_short_causes t) (DecodesShort t)) a.of_short (decode_short_meets t))).1 in
      both_none (words_causes 64 (words_at s 0)) (word_above (words_at s 0).word ∷ []) x.0.1 (λ above. omega (arith, w, part_below 4 t 24 g, above), tt);
}

pub wide_pinned : Pinned from_short Widened
wide_pinned = record {
  unique = λ s t t' h g a b. sym (own_back t h a.of_old) ∙ ap (λ (l : Layout). record_bytes (words_of l)) (same_answer (sym a.of_short ∙ b.of_short)) ∙ own_back t' g b.of_old;
  accepts = λ s t h g a. (answered_means (subst (Meets (decode_short_causes s) (DecodesShort s)) a.of_short (decode_short_meets s))).0.1;
}

-- two lists with the same records and the same tail are the same
same_records : (c t : ℕ) (xs ys : List ℕ) → ((i : ℕ) → i < c → record_of t xs i ≡ record_of t ys i) → drop (c * t) xs ≡ drop (c * t) ys → xs ≡ ys
same_records zero t xs ys e d = let z : 0 * t ≡ 0 = omega arith in ap (λ (k : ℕ). drop k xs) (sym z) ∙ d ∙ ap (λ (k : ℕ). drop k ys) z
same_records (suc c) t xs ys e d =
    let z : t + c * t ≡ suc c * t = omega (arith, suc-mul c t) in
    let r = same_records c t (drop t xs) (drop t ys) (λ i h. sym (next_record t xs i) ∙ e (suc i) (omega arith) ∙ next_record t ys i)
    (drop-drop (c * t) t xs ∙ ap (λ (k : ℕ). drop k xs) z ∙ d ∙ sym (ap (λ (k : ℕ). drop k ys) z) ∙ sym (drop-drop (c * t) t ys)) in
    sym (take-append-drop t xs) ∙ ap (λ (x : List ℕ). x ++ drop t xs) (sym (first_record t xs) ∙ e 0 (omega arith) ∙ first_record t ys) ∙ ap (λ (x : List ℕ). take t ys ++ x) r ∙ take-append-drop t ys

module _ (v : Way) (Forms : List ℕ → List ℕ → Type 0) (p : Pinned v Forms) (s old : List ℕ) (h : AllBytes s) where
  -- a list stops at one place, by one number
  one_stop : (k i k' i' : ℕ) → Stops v s (length old) k i → Stops v s (length old) k' i' → (k ≡ k') × (i ≡ i')
  one_stop k i k' i' (inl (f, e)) (inl (f', e')) = (one_number (length_causes v s (length old)) k k' f f', omega arith)
  one_stop k i k' i' (inl (f, e)) (inr (n, x)) = absurd (no_number (length_causes v s (length old)) k n f)
  one_stop k i k' i' (inr (n, x)) (inl (f, e)) = absurd (no_number (length_causes v s (length old)) k' n f)
  one_stop k i k' i' (inr (n, x)) (inr (n', y)) = go (ltb i i') refl (ltb i' i) refl
    where
      go : (a : Bool) → ltb i i' ≡ a → (b : Bool) → ltb i' i ≡ b → (k ≡ k') × (i ≡ i')
      go true a b e = absurd (no_number (v.causes (record_of v.from s i)) k (y.before i (ltb-true i i' a)) x.first)
      go false a true e = absurd (no_number (v.causes (record_of v.from s i')) k' (x.before i' (ltb-true i' i e)) y.first)
      go false a false e =
          let q : i ≡ i' = omega (arith, ltb-false i i' a, ltb-false i' i e) in
          (one_number (v.causes (record_of v.from s i')) k k' (subst (λ (z : ℕ). First (v.causes (record_of v.from s z)) k) q x.first) y.first, q)

  -- one that moves does not stop
  no_stop : {new : List ℕ} {n k i : ℕ} → AllBytes new → Moves v Forms s old new n → Stops v s (length old) k i → ⊥
  no_stop {new} {n} {k} {i} g m (inl (f, e)) = no_number (length_causes v s (length old)) k m.fits f
  no_stop {new} {n} {k} {i} g m (inr (z, x)) =
      no_number (v.causes (record_of v.from s i)) k
      (p.accepts (record_of v.from s i) (record_of v.to new i) (all_part v.from s (i * v.from) h) (all_part v.to new (i * v.to) g) (m.each i x.within))
      x.first

  pub one_move : {new new' : List ℕ} (r r' : Placed ℕ) → AllBytes new → AllBytes new' → MoveMeans v Forms s old new r → MoveMeans v Forms s old new' r' → (r ≡ r') × (new ≡ new')
  one_move {new} {new'} (reached n) (reached n') g g' a b =
      let e : n ≡ n' = a.written ∙ sym b.written in
      let c = count_of v s in (
        ap reached e,
        same_records c v.to new new'
            (λ i q. p.unique (record_of v.from s i) (record_of v.to new i) (record_of v.to new' i) (all_part v.to new (i * v.to) g) (all_part v.to new' (i * v.to) g') (a.each i q) (b.each i q))
            (sym (ap (λ (k : ℕ). drop k new) a.written) ∙ a.tail ∙ ap (λ (k : ℕ). drop k old) e ∙ sym b.tail ∙ ap (λ (k : ℕ). drop k new') b.written),
      )
  one_move (reached n) (stopped k i) g g' a b = absurd (no_stop g a b.0)
  one_move (stopped k i) (reached n) g g' a b = absurd (no_stop g' b a.0)
  one_move (stopped k i) (stopped k' i') g g' a b =
      let x = one_stop k i k' i' a.0 b.0 in (two x, a.1 ∙ sym b.1)
    where
      two : (k ≡ k') × (i ≡ i') → ◌≡◌ {A = Placed ℕ} (stopped k i) (stopped k' i')
      two (e, f) = cc
