-- One record moved either way comes back, and both forms decode to the same layout. Assumes nothing.
use mathlib.Core.Path.{◌≡◌, refl, sym, subst, ap, ◌∙◌}
use mathlib.Core.Bool.{Bool, true, false, not, ◌||◌}
use mathlib.Core.List.{List, [], ◌∷◌}
use Prim.Native.Nat.{ℕ, ◌^◌, ◌≤◌, ◌<◌}
use native.Mathlib.Omega.{arith}
use borrow.Author.Tests.{eqb-true, not-false, ltb-false, le-ltb, eq-eqb}
use lib.Dec.{eqb, ltb}
use lib.ListN.{length}
use Rattle.util_defs.specs.Width.{M}
use Rattle.util_defs.specs.Power.{power_of_two}
use Rattle.util_defs.proofs.Powers.{test_below}
use Rattle.util_defs.specs.Refusal.{answered}
use Rattle.util_defs.specs.Placed.{judged}
use Rattle.util_defs.proofs.Tables.{Passed, passed, passed_both, passes, both_passed}
use Rattle.words.proofs.LittleEndian.{AllBytes}
use Rattle.record_defs.specs.Record.{Words, words_at, record_bytes, words_layout, later_word, trailing_word_zero, words_causes, own_causes, own_for}
use Rattle.record_defs.proofs.Records.{record_length_lem}
use Rattle.record_defs.proofs.RoundTrips.{Fits, words_back, bytes_back}
use Rattle.short_defs.specs.Short.{Short, short_at, short_bytes, short_of, words_from, word_above, to_short_causes, from_short_causes, decode_short_causes, decode_short_for}
use Rattle.short_defs.specs.Moves.{Way, to_short, from_short}
use Rattle.short_defs.specs.Trips.{BothForms}
use Rattle.short_defs.proofs.Fields.{Holds, exponent_below, is_power, words_short, short_words, short_back, short_bytes_back, short_length_lem, words_fit, short_holds, short_all, record_all}

-- what a record moved one way is to the other
pub record Inverts (v v' : Way) (s : List ℕ) : Type 0 where
  pub whole : length (v.moved s) ≡ v.to
  pub bytes : AllBytes (v.moved s)
  pub accepted : judged (v'.causes (v.moved s)) ≡ answered tt
  pub back : v'.moved (v.moved s) ≡ s

-- what the tests of words, and of a short record, say
pub record ToShort (r : Words) : Type 0 where
  pub kind : r.kind ≤ 7
  pub power : power_of_two 64 r.align ≡ true
  pub word : r.word ≤ M 32

pub to_short_lem : (r : Words) → judged (to_short_causes r) ≡ answered tt → ToShort r
to_short_lem r e =
    let x = passed_both (words_causes 64 r) (word_above r.word ∷ []) (passed (to_short_causes r) tt e) in
    record { kind = ltb-false 7 r.kind x.0.0; power = not-false (power_of_two 64 r.align) x.0.1.0; word = ltb-false (M 32) r.word x.1.0 }

neither : (a b : Bool) → (a || b) ≡ false → (a ≡ false) × (b ≡ false)
neither true b e = let z : ◌≡◌ {A = ℕ} 0 1 = cc in absurd (omega arith)
neither false b e = (refl, e)

pub record FromShort (r : Short) : Type 0 where
  pub kind : r.kind ≤ 7
  pub spare : r.spare ≡ 0
  pub power : r.power ≤ 63

pub from_short_lem : (r : Short) → judged (from_short_causes r) ≡ answered tt → FromShort r
from_short_lem r e =
    let x = passed (from_short_causes r) tt e in
    let y = neither (not (eqb r.spare 0)) (ltb 63 r.power) x.1.0 in
    record { kind = ltb-false 7 r.kind x.0; spare = eqb-true r.spare 0 (not-false (eqb r.spare 0) y.0); power = ltb-false 63 r.power y.1 }

-- the fields of the short form of words that pass, and the words of a short record that passes, are held in their bytes
pub short_fits : (r : Words) → Fits r → ToShort r → Holds (short_of r)
short_fits r f t = record {
  size = f.size;
  offset = f.offset;
  elem = f.elem;
  word = omega (arith, t.word);
  power = omega (arith, exponent_below 64 r.align t.power);
  kind = omega (arith, t.kind);
  spare = omega arith;
}

power_fits : (k : ℕ) → k ≤ 63 → 2 ^ k < 256 ^ 8
power_fits k h = omega (arith, test_below 64 (2 ^ k) (is_power 64 k (omega arith)))

words_fits : (r : Short) → Holds r → FromShort r → Fits (words_from r)
words_fits r f t = record {
  align = power_fits r.power t.power;
  kind = omega (arith, t.kind);
  size = f.size;
  offset = f.offset;
  elem = f.elem;
  word = omega (arith, f.word);
}

-- old to new and back
pub short_inverts : (s : List ℕ) → AllBytes s → length s ≡ 48 → judged (to_short.causes s) ≡ answered tt → Inverts to_short from_short s
short_inverts s h n e =
    let r = words_at s 0 in
    let t = to_short_lem r e in
    let b = short_back (short_of r) (short_fits r (words_fit s h) t) in
    let w = words_short r t.power in
    let x = passed_both (words_causes 64 r) (word_above r.word ∷ []) (passed (to_short_causes r) tt e) in
    record {
      whole = short_length_lem (short_of r);
      bytes = short_all (short_of r);
      accepted = ap (λ (z : Short). judged (from_short_causes z)) b
          ∙ passes (from_short_causes (short_of r)) tt (x.0.0, (le-ltb 63 (short_of r).power (omega (arith, exponent_below 64 r.align t.power)), subst (λ (z : Words). Passed (later_word z ∷ trailing_word_zero z ∷ [])) (sym w) x.0.1.1));
      back = ap (λ (z : Short). record_bytes (words_from z)) b ∙ ap record_bytes w ∙ bytes_back s h n;
    }

-- new to old and back
pub wide_inverts : (s : List ℕ) → AllBytes s → length s ≡ 32 → judged (from_short.causes s) ≡ answered tt → Inverts from_short to_short s
wide_inverts s h n e =
    let r = short_at s 0 in
    let t = from_short_lem r e in
    let b = words_back (words_from r) (words_fits r (short_holds s h) t) in
    let w = short_words r t.spare t.power in
    let x = passed (from_short_causes r) tt e in
    record {
      whole = record_length_lem (words_from r);
      bytes = record_all (words_from r);
      accepted = ap (λ (z : Words). judged (to_short_causes z)) b
          ∙ passes (to_short_causes (words_from r)) tt (both_passed (words_causes 64 (words_from r)) (word_above r.word ∷ []) (x.0, (is_false (is_power 64 r.power (omega (arith, t.power))), x.1.1)) (le-ltb (M 32) r.word (omega (arith, (short_holds s h).word)), tt));
      back = ap (λ (z : Words). short_bytes (short_of z)) b ∙ ap short_bytes w ∙ short_bytes_back s h n;
    }
  where
    is_false : {b : Bool} → b ≡ true → not b ≡ false
    is_false e = ap not e

-- both forms of a record that is moved decode to the same layout
decodes : (s : List ℕ) → length s ≡ 48 → judged (words_causes 64 (words_at s 0)) ≡ answered tt → own_for s ≡ answered (words_layout (words_at s 0))
unfolding own_for
decodes s n e = passes (own_causes s) (words_layout (words_at s 0)) (ap not (eq-eqb (length s) 48 n), passed (words_causes 64 (words_at s 0)) tt e)

decodes_short : (s : List ℕ) → length s ≡ 32 → judged (from_short_causes (short_at s 0)) ≡ answered tt → decode_short_for s ≡ answered (words_layout (words_from (short_at s 0)))
unfolding decode_short_for
decodes_short s n e = passes (decode_short_causes s) (words_layout (words_from (short_at s 0))) (ap not (eq-eqb (length s) 32 n), passed (from_short_causes (short_at s 0)) tt e)

own_tests : (r : Words) → judged (to_short_causes r) ≡ answered tt → judged (words_causes 64 r) ≡ answered tt
own_tests r e = passes (words_causes 64 r) tt (passed_both (words_causes 64 r) (word_above r.word ∷ []) (passed (to_short_causes r) tt e)).0

pub short_forms : (s : List ℕ) → AllBytes s → length s ≡ 48 → judged (to_short.causes s) ≡ answered tt → BothForms s (to_short.moved s)
short_forms s h n e =
    let r = words_at s 0 in
    let i = short_inverts s h n e in
    let t = to_short_lem r e in
    record {
      layout = words_layout r;
      of_old = decodes s n (own_tests r e);
      of_short = decodes_short (to_short.moved s) i.whole i.accepted ∙ ap (λ (z : Short). answered (words_layout (words_from z))) (short_back (short_of r) (short_fits r (words_fit s h) t)) ∙ ap (λ (z : Words). answered (words_layout z)) (words_short r t.power);
    }

pub wide_forms : (s : List ℕ) → AllBytes s → length s ≡ 32 → judged (from_short.causes s) ≡ answered tt → BothForms (from_short.moved s) s
wide_forms s h n e =
    let r = short_at s 0 in
    let i = wide_inverts s h n e in
    record {
      layout = words_layout (words_from r);
      of_old = decodes (from_short.moved s) i.whole (own_tests (words_at (from_short.moved s) 0) i.accepted) ∙ ap (λ (z : Words). answered (words_layout z)) (words_back (words_from r) (words_fits r (short_holds s h) (from_short_lem r e)));
      of_short = decodes_short s n e;
    }
