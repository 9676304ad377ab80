-- One layout, one record: what is decoded of an encoded layout is the layout, and what is encoded of a decoded record is the
-- record. Over any width w. Assumes nothing.
use mathlib.Core.Path.{◌≡◌, refl, sym, subst, ap, ◌∙◌}
use mathlib.Core.Bool.{Bool, true, false, cond}
use mathlib.Core.List.{List}
use Prim.Native.Nat.{ℕ, ◌^◌, ◌≤◌, ◌<◌}
use native.Mathlib.Omega.{arith}
use lib.Pow.{pow_pos}
use lib.Dec.{ltb}
use lib.ListN.{length}
use lib.Seq.{take-add, take_all}
use Rattle.util_defs.specs.Width.{M}
use Rattle.util_defs.specs.Refusal.{Outcome, answered, refused, unless}
use Rattle.util_defs.proofs.Refusals.{no, known, agree, told_true, tells_eq, tells_lt, tells_not}
use Rattle.util_defs.proofs.Helpers.{align_decided}
use Rattle.util_defs.proofs.Tables.{apart, answer_is, accepted_as}
use Rattle.util_defs.specs.Helpers.{bad_align}
use Rattle.layout_defs.specs.Layout.{Info, fixed, trailing, Layout, layout_causes, check_for}
use Rattle.words.specs.Bytes.{bytes_of, word_at}
use Rattle.words.proofs.LittleEndian.{value_bytes, AllBytes, word_back, part_below}
use Rattle.record_defs.specs.Record.{Words, words_at, record_bytes, kind_of, info_words, words_of, words_layout, later_word, words_causes, FitsIn, bad_length, words_for, own_for, decode_for, encode_for, after, encoded_into, encode_words_for, write_for}
use Rattle.record_defs.proofs.Records.{record_length_lem, later_decided, decoded, tells_fits, own_words, decode_fits, decoded_own, encode_checked}

-- a test that did not refuse, and what follows it
past : {T : Type 0} (b : Bool) (n : ℕ) (o : Outcome T) {z : T} → cond b (refused n) o ≡ answered z → (b ≡ false) × (o ≡ answered z)
past true n o e = absurd (apart e)
past false n o e = (refl, e)

-- the words of a layout are read as the layout, where it is accepted
pub words_checked : (w a : ℕ) (i : Info) (m u : Bool)
    → let l : Layout = record { align = a; info = i; mark = m; modifier = u } in words_for w (words_of l) ≡ unless (layout_causes w l) l
unfolding words_for unless
words_checked w a (fixed s) true true = refl
words_checked w a (fixed s) true false = refl
words_checked w a (fixed s) false true = refl
words_checked w a (fixed s) false false = refl
words_checked w a (trailing t) true true = refl
words_checked w a (trailing t) true false = refl
words_checked w a (trailing t) false true = refl
words_checked w a (trailing t) false false = refl

-- so the words of a layout are written where the layout is
pub words_encoded : (w : ℕ) (l : Layout) (n : ℕ) → encode_words_for w (words_of l) n ≡ encode_for w l n
unfolding encode_words_for encode_for unless
words_encoded w l n = go l.info l.mark l.modifier
  where
    go : (i : Info) (m u : Bool) → let l : Layout = record { align = l.align; info = i; mark = m; modifier = u } in write_for (words_causes w (words_of l)) n ≡ write_for (layout_causes w l) n
    go (fixed s) true true = refl
    go (fixed s) true false = refl
    go (fixed s) false true = refl
    go (fixed s) false false = refl
    go (trailing t) true true = refl
    go (trailing t) true false = refl
    go (trailing t) false true = refl
    go (trailing t) false false = refl

-- each word is held in its eight bytes
pub record Fits (r : Words) : Type 0 where
  pub align : r.align < 256 ^ 8
  pub kind : r.kind < 256 ^ 8
  pub size : r.size < 256 ^ 8
  pub offset : r.offset < 256 ^ 8
  pub elem : r.elem < 256 ^ 8
  pub word : r.word < 256 ^ 8

-- the words of a record's bytes are those of the record
pub words_back : (r : Words) → Fits r → words_at (record_bytes r) 0 ≡ r
unfolding bytes_of
words_back r f =
    let a : word_at (record_bytes r) 0 ≡ r.align = value_bytes 8 r.align f.align in
    let k : word_at (record_bytes r) 8 ≡ r.kind = value_bytes 8 r.kind f.kind in
    let b : word_at (record_bytes r) 16 ≡ r.size = value_bytes 8 r.size f.size in
    let o : word_at (record_bytes r) 24 ≡ r.offset = value_bytes 8 r.offset f.offset in
    let e : word_at (record_bytes r) 32 ≡ r.elem = value_bytes 8 r.elem f.elem in
    let v : word_at (record_bytes r) 40 ≡ r.word = value_bytes 8 r.word f.word in
    six a k b o e v
  where
    six : {a k b o e v a' k' b' o' e' v' : ℕ} → a ≡ a' → k ≡ k' → b ≡ b' → o ≡ o' → e ≡ e' → v ≡ v'
        → ◌≡◌ {A = Words} (record { align = a; kind = k; size = b; offset = o; elem = e; word = v }) (record { align = a'; kind = k'; size = b'; offset = o'; elem = e'; word = v' })
    six ea ek eb eo ee ev = cc

-- decoding the record of an accepted layout gives the layout, where the width holds it
pub layout_back : (w : ℕ) (l : Layout) → Fits (words_of l) → FitsIn w (words_of l) → check_for 64 l ≡ answered tt → decode_for w (record_bytes (words_of l)) ≡ answered l
unfolding check_for
layout_back w l f h e =
    let s = record_bytes (words_of l) in
    decode_fits w s (told_true (tells_fits w (words_at s 0)) (subst (FitsIn w) (sym (words_back (words_of l) f)) h))
    ∙ own_words s (record_length_lem (words_of l))
    ∙ ap (words_for 64) (words_back (words_of l) f)
    ∙ words_checked 64 l.align l.info l.mark l.modifier
    ∙ accepted_as (layout_causes 64 l) tt l e

-- a layout whose alignment two widths hold is accepted at both or at neither
pub same_check : (v w : ℕ) (l : Layout) → l.align < 2 ^ v → l.align < 2 ^ w → check_for v l ≡ check_for w l
unfolding check_for unless
same_check v w l g h = rw (agree (align_decided v l.align g) (align_decided w l.align h))

align_of : (a k : ℕ) (i : Info) → (info_words a k i).align ≡ a
align_of a k (fixed s) = refl
align_of a k (trailing t) = refl

align_fits : (w : ℕ) (l : Layout) → FitsIn w (words_of l) → l.align ≤ M w
align_fits w l h = omega (arith, align_of l.align (kind_of l.info l.mark l.modifier) l.info, h.align)

align_held : (l : Layout) → Fits (words_of l) → l.align < 256 ^ 8
align_held l h = omega (arith, align_of l.align (kind_of l.info l.mark l.modifier) l.info, h.align)

encode_accepts : (w : ℕ) (l : Layout) (n : ℕ) → encode_for w l n ≡ answered tt → check_for w l ≡ answered tt
unfolding encode_for check_for unless
encode_accepts w l n e = (past (bad_length n).test 20 (unless (layout_causes w l) tt) e).1

-- so does decoding what `encode` wrote
pub decode_encoded : (w : ℕ) (l : Layout) (s : List ℕ) → Fits (words_of l) → FitsIn w (words_of l) → encode_for w l (length s) ≡ answered tt → decode_for w (encoded_into w l s) ≡ answered l
decode_encoded w l s f h e =
    let a : l.align < 2 ^ w = omega (arith, align_fits w l h, pow_pos w) in
    let b : l.align < 2 ^ 64 = omega (arith, align_held l f) in
    ap (λ (o : Outcome (Unit {0})). decode_for w (after o (record_bytes (words_of l)) s)) e
    ∙ layout_back w l f h (same_check 64 w l b a ∙ encode_accepts w l (length s) e)

-- the bytes of the words of 48 bytes are those bytes
pub bytes_back : (s : List ℕ) → AllBytes s → length s ≡ 48 → record_bytes (words_at s 0) ≡ s
bytes_back s h n =
    rw (word_back s 0 h (omega arith), word_back s 8 h (omega arith), word_back s 16 h (omega arith), word_back s 24 h (omega arith), word_back s 32 h (omega arith), word_back s 40 h (omega arith), ← take-add 8 8 s, ← take-add 16 8 s, ← take-add 24 8 s, ← take-add 32 8 s, ← take-add 40 8 s)
    (take_all 48 s (omega arith))

own_length : (s : List ℕ) {l : Layout} → own_for s ≡ answered l → length s ≡ 48
unfolding own_for unless
own_length s e = known (tells_eq (length s) 48) (no (tells_not (tells_eq (length s) 48)) (past (bad_length (length s)).test 20 _ e).0)

-- words that are read as a layout are the words of that layout
pub words_kept : (w : ℕ) (r : Words) {l : Layout} → words_for w r ≡ answered l → words_of l ≡ r
unfolding words_for unless
words_kept w r {l} e =
    let q1 = past (ltb 7 r.kind) 21 _ e in
    let q2 = past (bad_align w r.align).test 1 _ q1.1 in
    let q3 = past (later_word r).test 22 _ q2.1 in
    ap words_of (answer_is (words_causes w r) (words_layout r) e) ∙ decoded r.align r.kind r.size r.offset r.elem r.word (no (tells_lt 7 r.kind) q1.0) (no (later_decided r) q3.0)

own_read : (s : List ℕ) {l : Layout} → own_for s ≡ answered l → words_for 64 (words_at s 0) ≡ answered l
own_read s e = sym (own_words s (own_length s e)) ∙ e

-- the record of a decoded layout is the bytes that it was decoded of
pub own_back : (s : List ℕ) {l : Layout} → AllBytes s → own_for s ≡ answered l → record_bytes (words_of l) ≡ s
own_back s h e = ap record_bytes (words_kept 64 (words_at s 0) (own_read s e)) ∙ bytes_back s h (own_length s e)

pub record_back : (w : ℕ) (s : List ℕ) {l : Layout} → AllBytes s → decode_for w s ≡ answered l → record_bytes (words_of l) ≡ s
record_back w s h e = own_back s h (decoded_own w s e).0

-- what is decoded is accepted, so that `encode` writes those bytes
pub words_accepted : (w : ℕ) (r : Words) {l : Layout} → words_for w r ≡ answered l → check_for w l ≡ answered tt
unfolding check_for
words_accepted w r {l} e =
    accepted_as (layout_causes w l) l tt (sym (words_checked w l.align l.info l.mark l.modifier) ∙ ap (words_for w) (words_kept w r e) ∙ e)

decoded_accepted : (w : ℕ) (s : List ℕ) {l : Layout} → AllBytes s → decode_for w s ≡ answered l → check_for w l ≡ answered tt
decoded_accepted w s {l} h e =
    let r = own_read s (decoded_own w s e).0 in
    let k : words_of l ≡ words_at s 0 = words_kept 64 (words_at s 0) r in
    let a : l.align ≤ M w = align_fits w l (subst (FitsIn w) (sym k) (decoded_own w s e).1) in
    let b : l.align ≡ word_at s 0 = sym (align_of l.align (kind_of l.info l.mark l.modifier) l.info) ∙ ap (λ (r : Words). r.align) k in
    same_check w 64 l (omega (arith, a, pow_pos w)) (omega (arith, b, part_below 8 s 0 h)) ∙ words_accepted 64 (words_at s 0) r

pub encode_decoded : (w : ℕ) (s out : List ℕ) {l : Layout} → AllBytes s → length out ≡ 48 → decode_for w s ≡ answered l → encoded_into w l out ≡ s
encode_decoded w s out {l} h n e =
    ap (λ (o : Outcome (Unit {0})). after o (record_bytes (words_of l)) out) (encode_checked w l (length out) n ∙ decoded_accepted w s h e)
    ∙ record_back w s h e
