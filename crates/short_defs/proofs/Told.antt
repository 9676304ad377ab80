-- What the code of short records computes: the power by leading zeros, the last eight bytes as one word, and the outcomes by what
-- was tested. Assumes nothing.
use mathlib.Core.Path.{◌≡◌, refl, sym, subst, ap, ◌∙◌}
use mathlib.Core.Bool.{Bool, true, false}
use mathlib.Core.List.{List, [], ◌∷◌, ◌++◌, append_assoc}
use mathlib.Core.Logic.{◌⊎◌, inl, inr}
use Prim.Native.Nat.{ℕ, suc, ◌+◌, ◌-◌, ◌*◌, ◌/◌, ◌%◌, ◌^◌, ◌≤◌, ◌<◌}
use native.Mathlib.Nat.{pow-le-pow_right, two-pow-succ, one-le-pow}
use native.Mathlib.Omega.{arith}
use borrow.Author.Tests.{lt-ltb, le-ltb, eq-eqb, ne_eqb, ltb-true, ltb-false, leb-true, leb-false, not-false}
use lib.Count.{count_leading_zeros, leading_top}
use lib.Dec.{ltb, leb}
use lib.ListN.{length}
use lib.Seq.{sets}
use Rattle.util_defs.specs.Width.{M}
use Rattle.util_defs.specs.Power.{power_of_two}
use Rattle.util_defs.specs.Refusal.{Outcome, answered, refused, unless, Meets}
use Rattle.util_defs.specs.Placed.{judged}
use Rattle.util_defs.proofs.Powers.{positive, test_sound, test_below}
use Rattle.util_defs.proofs.Refusals.{meets, tells_not, tells_eq, tells_lt, tells_or, tells_and, known, told_false}
use Rattle.util_defs.proofs.Tables.{passed, accepted_first, refused_first, refused_as, accepted_as}
use Rattle.layout_defs.specs.Layout.{Info, fixed, trailing, Layout, layout_causes, check_for}
use Rattle.words.specs.Bytes.{bytes_of, word_at, word_bytes, put_into}
use Rattle.words.proofs.LittleEndian.{AllBytes, part_below, word_length, put_within, put_next, more, sets_whole, bytes_parts, value_parts}
use Rattle.record_defs.specs.Record.{Words, words_of, words_layout, words_causes, words_for, info_words, kind_of, after, words_at, record_bytes, own_for}
use Rattle.record_defs.proofs.Records.{later_decided, decoded, own_words, put_record, record_length_lem}
use Rattle.record_defs.proofs.RoundTrips.{words_kept}
use Rattle.short_defs.specs.Short.{Short, number_at, short_at, short_bytes, exponent_of, short_of, words_from, word_above, from_short_causes, decode_short_causes, decode_short_for, DecodesShort, bad_short_length, to_short_causes, encode_short_words_for, encoded_short_words_into, encode_short_causes, encode_short_for, encoded_short_into}
use Rattle.short_defs.specs.Moves.{to_short, from_short}
use Rattle.short_defs.proofs.Records.{to_short_lem, from_short_lem, short_fits}
use Rattle.short_defs.proofs.Fields.{Holds, power_is, exponent_below, is_power, short_words, short_length_lem, words_fit}

-- the power of an alignment, by its leading zeros
below_cancel : (a b : ℕ) → 2 ^ a < 2 ^ b → a < b
below_cancel a b h = go (ltb a b) refl
  where
    go : (x : Bool) → ltb a b ≡ x → a < b
    go true e = ltb-true a b e
    go false e = let m : 2 ^ b ≤ 2 ^ a = pow-le-pow_right (omega arith) (ltb-false a b e) in absurd (omega arith)

pub zeros_power : (w a : ℕ) → power_of_two w a ≡ true → (count_leading_zeros w a ≤ w - 1) × (w - 1 - count_leading_zeros w a ≡ exponent_of w a)
zeros_power w a e =
    let t = leading_top w a (positive (test_sound w a e)) (test_below w a e) in
    let j = t.0 in
    let k = exponent_of w a in
    let p : 2 ^ k ≡ a = power_is w a e in
    let u : j < suc k = below_cancel j (suc k) (subst (λ (z : ℕ). 2 ^ j < z) (sym (two-pow-succ k)) (omega (arith, t.2, p, one-le-pow k 2 (omega arith)))) in
    let d : k < suc j = below_cancel k (suc j) (omega (arith, t.3, p)) in
    (omega (arith, t.1), omega (arith, t.1))

pub shifted : (p : ℕ) → p ≤ 63 → (1 * 2 ^ p) % 2 ^ 64 ≡ 2 ^ p
shifted p h = let b = test_below 64 (2 ^ p) (is_power 64 p (omega arith)) in omega arith

-- the last eight bytes, read as one word
pub record Last (s : List ℕ) : Type 0 where
  pub word : word_at s 24 % 4294967296 ≡ number_at 4 s 24
  pub power : word_at s 24 / 4294967296 % 256 ≡ number_at 1 s 28
  pub kind : word_at s 24 / 1099511627776 % 256 ≡ number_at 1 s 29
  pub spare : word_at s 24 / 281474976710656 ≡ number_at 2 s 30

pub last_read : (s : List ℕ) → AllBytes s → 32 ≤ length s → Last s
last_read s h l =
    let a = number_at 4 s 24 in
    let b = number_at 1 s 28 in
    let c = number_at 1 s 29 in
    let d = number_at 2 s 30 in
    let e1 : word_at s 24 ≡ a + 256 ^ 4 * number_at 4 s 28 = value_parts s 4 4 24 28 refl (omega arith) in
    let e2 : number_at 4 s 28 ≡ b + 256 ^ 1 * number_at 3 s 29 = value_parts s 1 3 28 29 refl (omega arith) in
    let e3 : number_at 3 s 29 ≡ c + 256 ^ 1 * d = value_parts s 1 2 29 30 refl (omega arith) in
    let ha : a < 256 ^ 4 = part_below 4 s 24 h in
    let hb : b < 256 ^ 1 = part_below 1 s 28 h in
    let hc : c < 256 ^ 1 = part_below 1 s 29 h in
    let hd : d < 256 ^ 2 = part_below 2 s 30 h in
    record { word = omega arith; power = omega arith; kind = omega arith; spare = omega arith }

-- and written as one word
last_bytes : (r : Short) → Holds r → word_bytes (r.word + 4294967296 * (r.power + 256 * (r.kind + 256 * r.spare))) ≡ bytes_of 4 r.word ++ (bytes_of 1 r.power ++ (bytes_of 1 r.kind ++ bytes_of 2 r.spare))
last_bytes r f =
    bytes_parts 4 4 r.word (r.power + 256 * (r.kind + 256 * r.spare)) f.word
    ∙ ap (λ (x : List ℕ). bytes_of 4 r.word ++ x) (bytes_parts 1 3 r.power (r.kind + 256 * r.spare) f.power
    ∙ ap (λ (x : List ℕ). bytes_of 1 r.power ++ x) (bytes_parts 1 2 r.kind r.spare f.kind))

pub put_short_lem : (l : List ℕ) (r : Short) → Holds r → 32 ≤ length l
    → put_into (put_into (put_into (put_into l 0 r.size) 8 r.offset) 16 r.elem) 24 (r.word + 4294967296 * (r.power + 256 * (r.kind + 256 * r.spare))) ≡ sets l 0 (short_bytes r)
put_short_lem l r f h =
    let v = r.word + 4294967296 * (r.power + 256 * (r.kind + 256 * r.spare)) in
    let p1 = word_bytes r.size in
    let p2 = p1 ++ word_bytes r.offset in
    let p3 = p2 ++ word_bytes r.elem in
    let m2 : length p2 ≡ 16 = more p1 8 r.offset (word_length r.size) in
    let m3 : length p3 ≡ 24 = more p2 16 r.elem m2 in
    rw (put_within l 0 r.size (omega arith), put_next p1 l 0 8 8 r.offset (word_length r.size) refl (omega arith), put_next p2 l 0 16 16 r.elem m2 refl (omega arith))
    (put_next p3 l 0 24 24 v m3 refl (omega arith) ∙ ap (λ (x : List ℕ). sets l 0 (p3 ++ x)) (last_bytes r f) ∙ ap (sets l 0) (assoc p3 (bytes_of 4 r.word) (bytes_of 1 r.power) (bytes_of 1 r.kind) (bytes_of 2 r.spare)))
  where
    assoc : (p a b c d : List ℕ) → p ++ (a ++ (b ++ (c ++ d))) ≡ p ++ a ++ b ++ c ++ d
    assoc p a b c d =
        sym (append_assoc p a (b ++ (c ++ d))) ∙ sym (append_assoc (p ++ a) b (c ++ d)) ∙ sym (append_assoc (p ++ a ++ b) c d)

-- a short record by what its tests say: past 21 and 42 its words are tested as a record's are
pub short_words_for : (r : Short) → r.kind ≤ 7 → r.spare ≡ 0 → r.power ≤ 63 → words_for 64 (words_from r) ≡ unless (from_short_causes r) (words_layout (words_from r))
unfolding words_for unless
short_words_for r k z p = simp (le-ltb 7 r.kind k, is_power 64 r.power (omega arith), eq-eqb r.spare 0 z, le-ltb 63 r.power p)

pub decode_short_words : (s : List ℕ) → length s ≡ 32 → decode_short_for s ≡ unless (from_short_causes (short_at s 0)) (words_layout (words_from (short_at s 0)))
unfolding decode_short_for unless
decode_short_words s n = simp (eq-eqb (length s) 32 n)

-- what it means
pub decode_short_meets : (s : List ℕ) → Meets (decode_short_causes s) (DecodesShort s) (decode_short_for s)
unfolding decode_short_for
decode_short_meets s =
    meets (decode_short_causes s) (words_layout (words_from r))
    (tells_not (tells_eq (length s) 32), λ _. (tells_lt 7 r.kind, λ _. (tells_or (tells_not (tells_eq r.spare 0)) (tells_lt 63 r.power), λ _. (later_decided (words_from r), λ _. (tells_and (tells_not (tells_eq (r.kind / 2 % 2) 0)) (tells_eq r.word 0), λ _. tt)))))
    (λ x. ap short_of (decoded (2 ^ r.power) r.kind r.size r.offset r.elem r.word x.1.0 x.1.1.1.0) ∙ short_words r (spare x.1.1.0) (power x.1.1.0))
  where
    r : Short
    r = short_at s 0

    spare : (((r.spare ≡ 0 → ⊥) ⊎ (63 < r.power)) → ⊥) → r.spare ≡ 0
    spare n = known (tells_eq r.spare 0) (λ z. n (inl z))

    power : (((r.spare ≡ 0 → ⊥) ⊎ (63 < r.power)) → ⊥) → r.power ≤ 63
    power n = ltb-false 63 r.power (told_false (tells_lt 63 r.power) (λ z. n (inr z)))

-- `encode_short_words` by what its tests say
module _ (r : Words) (n : ℕ) (h : n ≡ 32) where
  pub encode_short_own : {k : ℕ} → words_for 64 r ≡ refused k → encode_short_words_for r n ≡ refused k
  unfolding encode_short_words_for unless words_for
  encode_short_own e = simp (eq-eqb n 32 h) (refused_first (words_causes 64 r) (word_above r.word ∷ []) (words_layout r) tt e)

  pub encode_short_above : {l : Layout} → words_for 64 r ≡ answered l → leb (words_of l).word (M 32) ≡ false → encode_short_words_for r n ≡ refused 40
  unfolding encode_short_words_for unless words_for
  encode_short_above {l} e f =
      simp (eq-eqb n 32 h) (accepted_first (words_causes 64 r) (word_above r.word ∷ []) (words_layout r) tt e
      ∙ simp (lt-ltb (M 32) r.word (leb-false r.word (M 32) (ap (λ (z : Words). leb z.word (M 32)) (sym (words_kept 64 r e)) ∙ f))))

  pub encode_short_on : {l : Layout} → words_for 64 r ≡ answered l → leb (words_of l).word (M 32) ≡ true → encode_short_words_for r n ≡ answered tt
  unfolding encode_short_words_for unless words_for
  encode_short_on {l} e f =
      simp (eq-eqb n 32 h) (accepted_first (words_causes 64 r) (word_above r.word ∷ []) (words_layout r) tt e
      ∙ simp (le-ltb (M 32) r.word (leb-true r.word (M 32) (ap (λ (z : Words). leb z.word (M 32)) (sym (words_kept 64 r e)) ∙ f))))

pub encode_short_length : (r : Words) (n : ℕ) → (n ≡ 32 → ⊥) → encode_short_words_for r n ≡ refused 20
unfolding encode_short_words_for unless
encode_short_length r n h = simp (ne_eqb n 32 h)

-- the lent bytes after it
pub short_written : (r : Words) (old : List ℕ) → length old ≡ 32 → encode_short_words_for r (length old) ≡ answered tt → sets old 0 (short_bytes (short_of r)) ≡ encoded_short_words_into r old
short_written r old h e =
    sets_whole (short_bytes (short_of r)) old (short_length_lem (short_of r) ∙ sym h)
    ∙ ap (λ (o : Outcome (Unit {0})). after o (short_bytes (short_of r)) old) (sym e)

pub short_kept : (r : Words) (old : List ℕ) {k : ℕ} → encode_short_words_for r (length old) ≡ refused k → old ≡ encoded_short_words_into r old
short_kept r old e = ap (λ (o : Outcome (Unit {0})). after o (short_bytes (short_of r)) old) (sym e)

-- the words of a layout are refused as it is
pub short_words_encoded : (l : Layout) (n : ℕ) → encode_short_words_for (words_of l) n ≡ encode_short_for l n
unfolding encode_short_words_for encode_short_for unless
short_words_encoded l n = go l.info l.mark l.modifier
  where
    go : (i : Info) (m u : Bool) → let l : Layout = record { align = l.align; info = i; mark = m; modifier = u } in
        judged (bad_short_length n ∷ to_short_causes (words_of l)) ≡ judged (encode_short_causes l n)
    go (fixed s) true true = refl
    go (fixed s) true false = refl
    go (fixed s) false true = refl
    go (fixed s) false false = refl
    go (trailing t) true true = refl
    go (trailing t) true false = refl
    go (trailing t) false true = refl
    go (trailing t) false false = refl

pub encoded_short : (l : Layout) (old : List ℕ) → encoded_short_words_into (words_of l) old ≡ encoded_short_into l old
encoded_short l old = ap (λ (o : Outcome (Unit {0})). after o (short_bytes (short_of (words_of l))) old) (short_words_encoded l (length old))

-- a layout that is accepted has a power of two for its alignment
pub checked_power : (l : Layout) → check_for 64 l ≡ answered tt → power_of_two 64 l.align ≡ true
unfolding check_for
checked_power l e = not-false (power_of_two 64 l.align) (passed (layout_causes 64 l) tt e).0

-- the short form of a layout that fits is held in its bytes
pub words_align : (l : Layout) → (words_of l).align ≡ l.align
words_align l = go l.info
  where
    go : (i : Info) → (info_words l.align (kind_of i l.mark l.modifier) i).align ≡ l.align
    go (fixed s) = refl
    go (trailing t) = refl

kind_below : (l : Layout) → (words_of l).kind ≤ 7
kind_below l = go l.info l.mark l.modifier
  where
    go : (i : Info) (m u : Bool) → (info_words l.align (kind_of i m u) i).kind ≤ 7
    go (fixed s) true true = omega arith
    go (fixed s) true false = omega arith
    go (fixed s) false true = omega arith
    go (fixed s) false false = omega arith
    go (trailing t) true true = omega arith
    go (trailing t) true false = omega arith
    go (trailing t) false true = omega arith
    go (trailing t) false false = omega arith

pub short_held : (l : Layout) (r : Words) → r ≡ words_of l → check_for 64 l ≡ answered tt → leb (words_of l).word (M 32) ≡ true
    → r.size < 256 ^ 8 → r.offset < 256 ^ 8 → r.elem < 256 ^ 8 → Holds (short_of r)
short_held l r e c f hb ho he = record {
  size = hb;
  offset = ho;
  elem = he;
  word = omega (arith, ap (λ (z : Words). z.word) e, leb-true (words_of l).word (M 32) f);
  power = omega (arith, exponent_below 64 r.align (ap (λ (z : Words). power_of_two 64 z.align) e ∙ ap (power_of_two 64) (words_align l) ∙ checked_power l c));
  kind = omega (arith, ap (λ (z : Words). z.kind) e, kind_below l);
  spare = omega arith;
}

-- the tests of one record by what decoding says, and what it becomes, either way
module _ (s : List ℕ) where
  pub record_own : {k : ℕ} → length s ≡ 48 → own_for s ≡ refused k → judged (to_short.causes s) ≡ refused k
  unfolding words_for
  record_own n e = refused_first (words_causes 64 (words_at s 0)) (word_above (words_at s 0).word ∷ []) (words_layout (words_at s 0)) tt (sym (own_words s n) ∙ e)

  kept : {l : Layout} → length s ≡ 48 → own_for s ≡ answered l → words_of l ≡ words_at s 0
  kept n e = words_kept 64 (words_at s 0) (sym (own_words s n) ∙ e)

  pub record_above : {l : Layout} → length s ≡ 48 → own_for s ≡ answered l → leb (words_of l).word (M 32) ≡ false → judged (to_short.causes s) ≡ refused 40
  unfolding words_for unless
  record_above {l} n e f =
      accepted_first (words_causes 64 (words_at s 0)) (word_above (words_at s 0).word ∷ []) (words_layout (words_at s 0)) tt (sym (own_words s n) ∙ e)
      ∙ simp (lt-ltb (M 32) (words_at s 0).word (leb-false (words_at s 0).word (M 32) (ap (λ (r : Words). leb r.word (M 32)) (sym (kept n e)) ∙ f)))

  pub record_fits : {l : Layout} → length s ≡ 48 → own_for s ≡ answered l → leb (words_of l).word (M 32) ≡ true → judged (to_short.causes s) ≡ answered tt
  unfolding words_for unless
  record_fits {l} n e f =
      accepted_first (words_causes 64 (words_at s 0)) (word_above (words_at s 0).word ∷ []) (words_layout (words_at s 0)) tt (sym (own_words s n) ∙ e)
      ∙ simp (le-ltb (M 32) (words_at s 0).word (leb-true (words_at s 0).word (M 32) (ap (λ (r : Words). leb r.word (M 32)) (sym (kept n e)) ∙ f)))

  pub short_own : {k : ℕ} → length s ≡ 32 → decode_short_for s ≡ refused k → judged (from_short.causes s) ≡ refused k
  short_own n e = refused_as (from_short_causes (short_at s 0)) (words_layout (words_from (short_at s 0))) tt (sym (decode_short_words s n) ∙ e)

  pub short_on : {l : Layout} → length s ≡ 32 → decode_short_for s ≡ answered l → judged (from_short.causes s) ≡ answered tt
  short_on n e = accepted_as (from_short_causes (short_at s 0)) (words_layout (words_from (short_at s 0))) tt (sym (decode_short_words s n) ∙ e)

-- what the code writes of a record that was accepted, word by word
pub writes_short : (s old : List ℕ) → AllBytes s → length old ≡ 32 → judged (to_short.causes s) ≡ answered tt → {power : ℕ} → power ≡ exponent_of 64 (word_at s 0)
    → put_into (put_into (put_into (put_into old 0 (word_at s 16)) 8 (word_at s 24)) 16 (word_at s 32)) 24 (word_at s 40 + 4294967296 * (power + 256 * word_at s 8)) ≡ to_short.moved s
writes_short s old h n j {power} e =
    let r = words_at s 0 in
    let f = short_fits r (words_fit s h) (to_short_lem r j) in
    let q : word_at s 8 ≡ word_at s 8 + 256 * 0 = omega arith in
    ap (λ (k : ℕ). put_into (put_into (put_into (put_into old 0 (word_at s 16)) 8 (word_at s 24)) 16 (word_at s 32)) 24 (word_at s 40 + 4294967296 * (k + 256 * word_at s 8))) e
    ∙ ap (λ (k : ℕ). put_into (put_into (put_into (put_into old 0 (word_at s 16)) 8 (word_at s 24)) 16 (word_at s 32)) 24 (word_at s 40 + 4294967296 * (exponent_of 64 (word_at s 0) + 256 * k))) q
    ∙ put_short_lem old (short_of r) f (omega arith)
    ∙ sets_whole (short_bytes (short_of r)) old (short_length_lem (short_of r) ∙ sym n)

pub writes_record : (s old : List ℕ) → AllBytes s → length s ≡ 32 → length old ≡ 48 → judged (from_short.causes s) ≡ answered tt
    → put_into (put_into (put_into (put_into (put_into (put_into old 0 (1 * 2 ^ (word_at s 24 / 4294967296 % 256) % 18446744073709551616)) 8 (word_at s 24 / 1099511627776 % 256)) 16 (word_at s 0)) 24 (word_at s 8)) 32 (word_at s 16)) 40 (word_at s 24 % 4294967296)
    ≡ from_short.moved s
writes_record s old h l n j =
    let r = short_at s 0 in
    let t = from_short_lem r j in
    let z = last_read s h (omega arith) in
    let a : 1 * 2 ^ (word_at s 24 / 4294967296 % 256) % 18446744073709551616 ≡ 2 ^ r.power = ap (λ (k : ℕ). 1 * 2 ^ k % 18446744073709551616) z.power ∙ shifted r.power t.power in
    rw (a, z.kind, z.word) (put_record old (words_from r) (omega arith) ∙ sets_whole (record_bytes (words_from r)) old (record_length_lem (words_from r) ∙ sym n))

-- its power by leading zeros, and the sums that it makes
pub accepted_power : (s : List ℕ) → judged (to_short.causes s) ≡ answered tt → (count_leading_zeros 64 (word_at s 0) ≤ 63) × (63 - count_leading_zeros 64 (word_at s 0) ≡ exponent_of 64 (word_at s 0))
accepted_power s j = zeros_power 64 (word_at s 0) (to_short_lem (words_at s 0) j).power
