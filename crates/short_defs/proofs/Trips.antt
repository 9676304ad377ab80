-- Each way comes back, and every short record that is accepted has one old form. Assumes nothing.
use mathlib.Core.Path.{◌≡◌, refl, sym, subst, ap, ◌∙◌}
use mathlib.Core.Bool.{not}
use mathlib.Core.List.{List, [], ◌∷◌, ◌++◌}
use Prim.Native.Nat.{ℕ, zero, suc, ◌+◌, ◌*◌, ◌/◌, ◌%◌, ◌≤◌, ◌<◌}
use native.Mathlib.Nat.{suc-mul, mul-div_left, mul-mod_left}
use native.Mathlib.Omega.{arith}
use borrow.Author.Tests.{le-ltb, eq-eqb}
use lib.ListN.{length, take, drop, length-drop, take-append-drop}
use lib.Seq.{take_at, drop_at, length-take-le, get_or-drop}
use Rattle.util_defs.specs.Refusal.{Outcome, answered, refused, Cause}
use Rattle.util_defs.specs.Placed.{Placed, reached, stopped, at_place, judged}
use Rattle.util_defs.proofs.Tables.{passes}
use Rattle.words.proofs.LittleEndian.{AllBytes, all_part}
use Rattle.record_defs.specs.Record.{record_length, words_at}
use Rattle.record_defs.proofs.Records.{record_length_lem}
use Rattle.short_defs.specs.Short.{short_length, short_at, short_of, words_from}
use Rattle.short_defs.specs.Moves.{Way, to_short, from_short, count_of, length_causes, tested, moved_all, move_for}
use Rattle.short_defs.specs.Trips.{ComesBack, HasOneOldForm}
use Rattle.short_defs.proofs.Fields.{short_length_lem}
use Rattle.short_defs.proofs.Records.{Inverts, short_inverts, wide_inverts}
use Rattle.short_defs.proofs.Lists.{moved_length, not_stopped}
use Rattle.short_defs.proofs.Meaning.{move_lengths, move_stops, move_goes, sized}

module _ (f t : ℕ) (cs cs' : List ℕ → List Cause) (mv mv' : List ℕ → List ℕ) where
  -- a way and the way back
  abbrev there : Way
  there = record { from = f; to = t; causes = cs; moved = mv }

  abbrev back : Way
  back = record { from = t; to = f; causes = cs'; moved = mv' }

  module _ (whole : (s : List ℕ) → length (mv s) ≡ t) (inverts : (s : List ℕ) → AllBytes s → length s ≡ f → judged (cs s) ≡ answered tt → Inverts there back s) where
    rest_bytes : (s : List ℕ) → AllBytes s → AllBytes (drop f s)
    rest_bytes s h i = subst (λ (x : ℕ). x < 256) (sym (get_or-drop f s i 0)) (h (f + i))

    -- the first record of a list of n + 1
    first_whole : (n : ℕ) (s : List ℕ) → length s ≡ suc n * f → length (take f s) ≡ f
    first_whole n s l = length-take-le f s (omega (arith, suc-mul n f))

    rest_whole : (n : ℕ) (s : List ℕ) → length s ≡ suc n * f → length (drop f s) ≡ n * f
    rest_whole n s l = omega (arith, length-drop f s, suc-mul n f)

    first_inverts : (i n : ℕ) (s : List ℕ) → AllBytes s → length s ≡ suc n * f → tested there i (suc n) s ≡ reached tt → Inverts there back (take f s) × (tested there (suc i) n (drop f s) ≡ reached tt)
    unfolding tested
    first_inverts i n s h l e = go (judged (cs (take f s))) refl e
      where
        go : (o : Outcome (Unit {0})) → judged (cs (take f s)) ≡ o → at_place i o (λ _. tested there (suc i) n (drop f s)) ≡ reached tt
            → Inverts there back (take f s) × (tested there (suc i) n (drop f s) ≡ reached tt)
        go (answered tt) g e = (inverts (take f s) (all_part f s 0 h) (first_whole n s l) g, e)
        go (refused k) g e = absurd (not_stopped e)

    back_tested : (i n : ℕ) (s : List ℕ) → AllBytes s → length s ≡ n * f → tested there i n s ≡ reached tt → tested back i n (moved_all there n s) ≡ reached tt
    unfolding tested moved_all
    back_tested i zero s h l e = refl
    back_tested i (suc n) s h l e =
        let x = first_inverts i n s h l e in
        let a = mv (take f s) in
        let b = moved_all there n (drop f s) in
        ap (λ (z : List ℕ). at_place i (judged (cs' z)) (λ _. tested back (suc i) n (drop t (a ++ b)))) (take_at a b t (whole (take f s)))
        ∙ ap (λ (o : Outcome (Unit {0})). at_place i o (λ _. tested back (suc i) n (drop t (a ++ b)))) x.0.accepted
        ∙ ap (tested back (suc i) n) (drop_at a b t (whole (take f s)))
        ∙ back_tested (suc i) n (drop f s) (rest_bytes s h) (rest_whole n s l) x.1

    back_moved : (i n : ℕ) (s : List ℕ) → AllBytes s → length s ≡ n * f → tested there i n s ≡ reached tt → moved_all back n (moved_all there n s) ≡ s
    unfolding moved_all
    back_moved i zero s h l e = sym (nothing s (omega arith))
      where
        nothing : (s : List ℕ) → length s ≡ 0 → s ≡ []
        nothing [] e = refl
        nothing (b ∷ s) e = absurd (omega arith)
    back_moved i (suc n) s h l e =
        let x = first_inverts i n s h l e in
        let a = mv (take f s) in
        let b = moved_all there n (drop f s) in
        ap (λ (z : List ℕ). mv' z ++ moved_all back n (drop t (a ++ b))) (take_at a b t (whole (take f s)))
        ∙ ap (λ (z : List ℕ). z ++ moved_all back n (drop t (a ++ b))) x.0.back
        ∙ ap (λ (z : List ℕ). take f s ++ moved_all back n z) (drop_at a b t (whole (take f s)))
        ∙ ap (λ (z : List ℕ). take f s ++ z) (back_moved (suc i) n (drop f s) (rest_bytes s h) (rest_whole n s l) x.1)
        ∙ take-append-drop f s

    returns : 0 < t → ComesBack there back
    returns pos s bs m m' h e room = lengths (judged (length_causes there s m)) refl
      where
        goes : judged (length_causes there s m) ≡ answered tt → tested there 0 (count_of there s) s ≡ reached tt → move_for back bs m' ≡ reached s
        goes g u =
            let n = count_of there s in
            let z = sized there s m g in
            let q : bs ≡ moved_all there n s = same (sym e ∙ move_goes there s m g u) in
            let lb : length bs ≡ n * t = ap length q ∙ moved_length there whole n s in
            let c : count_of back bs ≡ n = ap (λ (x : ℕ). x / t) lb ∙ mul-div_left n pos in
            let r : length bs % t ≡ 0 = ap (λ (x : ℕ). x % t) lb ∙ mul-mod_left n t in
            let k : count_of back bs * f ≤ m' = subst (λ (x : ℕ). x * f ≤ m') (sym c) (omega (arith, z.list)) in
            move_goes back bs m' (passes (length_causes back bs m') tt (ap not (eq-eqb (length bs % t) 0 r), (le-ltb m' (count_of back bs * f) k, tt)))
            (ap (λ (x : ℕ). tested back 0 x bs) c ∙ ap (tested back 0 n) q ∙ back_tested 0 n s h z.list u)
            ∙ ap reached (ap (λ (x : ℕ). moved_all back x bs) c ∙ ap (moved_all back n) q ∙ back_moved 0 n s h z.list u)
          where
            same : {x y : List ℕ} → reached x ≡ reached y → x ≡ y
            same e = cc

        scan : judged (length_causes there s m) ≡ answered tt → (o : Placed (Unit {0})) → tested there 0 (count_of there s) s ≡ o → move_for back bs m' ≡ reached s
        scan g (reached tt) u = goes g u
        scan g (stopped k i) u = absurd (not_stopped (sym (move_stops there s m g u) ∙ e))

        lengths : (o : Outcome (Unit {0})) → judged (length_causes there s m) ≡ o → move_for back bs m' ≡ reached s
        lengths (answered tt) g = scan g (tested there 0 (count_of there s) s) refl
        lengths (refused k) g = absurd (not_stopped (sym (move_lengths there s m g) ∙ e))

-- "Every layout that fits comes back the same bytes"; and new to old to new
pub old_comes_back : ComesBack to_short from_short
old_comes_back =
    returns record_length short_length to_short.causes from_short.causes to_short.moved from_short.moved (λ s. short_length_lem (short_of (words_at s 0))) short_inverts (omega arith)

pub new_comes_back : ComesBack from_short to_short
new_comes_back =
    returns short_length record_length from_short.causes to_short.causes from_short.moved to_short.moved (λ s. record_length_lem (words_from (short_at s 0))) wide_inverts (omega arith)

-- "every new record accepted has one old form"
pub one_old_form : (s : List ℕ) → HasOneOldForm s
one_old_form s h n e =
    let x = wide_inverts s h n e in
    record {
      old = from_short.moved s;
      bytes = x.bytes;
      whole = x.whole;
      accepted = x.accepted;
      moves = x.back;
      only = λ t g l a m. sym (short_inverts t g l a).back ∙ ap from_short.moved m;
    }
