-- What records mean, and what encoding leaves, over any width w. Assumes nothing.
use mathlib.Core.Path.{◌≡◌, refl, sym, ap, ◌∙◌}
use mathlib.Core.Bool.{Bool, true, false, cond, not, ◌&&◌}
use mathlib.Core.List.{List, [], ◌∷◌, ◌++◌}
use Prim.Native.Nat.{ℕ, zero, suc, ◌+◌, ◌/◌, ◌%◌, ◌^◌, ◌≤◌, ◌<◌}
use native.Mathlib.Omega.{arith}
use borrow.Author.Tests.{eq-eqb, ne_eqb}
use lib.Dec.{eqb}
use lib.ListN.{length}
use lib.Seq.{sets}
use Rattle.util_defs.specs.Width.{M}
use Rattle.util_defs.specs.Refusal.{Cause, Outcome, answered, refused, unless, Tells, holds, fails, None, Meets, Decided}
use Rattle.util_defs.proofs.Refusals.{known, told_true, told_false, tells_as, tells_eq, tells_le, tells_lt, tells_not, tells_and, meets}
use Rattle.util_defs.proofs.Tables.{apart, answer_is, refused_first, accepted_first, none_both, decided_both}
use Rattle.util_defs.proofs.Helpers.{align_decided}
use Rattle.trailing_defs.specs.Size.{Trailing}
use Rattle.layout_defs.specs.Layout.{fixed, trailing, Layout, check_for}
use Rattle.words.specs.Bytes.{bytes_of, word_at, word_bytes, put_into}
use Rattle.words.proofs.LittleEndian.{sets_whole, word_length, put_within, put_next, more}
use Rattle.record_defs.specs.Record.{Words, IsFixedKind, words_at, record_bytes, words_of, words_layout, later_word, trailing_word_zero, words_causes, FitsIn, fits_in, number_passes, own_causes, record_causes, words_for, own_for, decode_for, Decodes, info_words, write_for, after, written_into, encode_for}

-- the bytes of a record
pub record_length_lem : (r : Words) → length (record_bytes r) ≡ 48
unfolding bytes_of
record_length_lem r = refl

-- six words, one behind the other
pub put_record : (l : List ℕ) (r : Words) → 48 ≤ length l
    → put_into (put_into (put_into (put_into (put_into (put_into l 0 r.align) 8 r.kind) 16 r.size) 24 r.offset) 32 r.elem) 40 r.word ≡ sets l 0 (record_bytes r)
put_record l r h =
    let p1 = word_bytes r.align in
    let p2 = p1 ++ word_bytes r.kind in
    let p3 = p2 ++ word_bytes r.size in
    let p4 = p3 ++ word_bytes r.offset in
    let p5 = p4 ++ word_bytes r.elem in
    let m2 : length p2 ≡ 16 = more p1 8 r.kind (word_length r.align) in
    let m3 : length p3 ≡ 24 = more p2 16 r.size m2 in
    let m4 : length p4 ≡ 32 = more p3 24 r.offset m3 in
    let m5 : length p5 ≡ 40 = more p4 32 r.elem m4 in
    rw (put_within l 0 r.align (omega arith), put_next p1 l 0 8 8 r.kind (word_length r.align) refl (omega arith), put_next p2 l 0 16 16 r.size m2 refl (omega arith), put_next p3 l 0 24 24 r.offset m3 refl (omega arith), put_next p4 l 0 32 32 r.elem m4 refl (omega arith), put_next p5 l 0 40 40 r.word m5 refl (omega arith))

zeros : (o e v : ℕ) → Tells ((o ≡ 0) × ((e ≡ 0) × (v ≡ 0))) (eqb o 0 && (eqb e 0 && eqb v 0))
zeros o e v = tells_and (tells_eq o 0) (tells_and (tells_eq e 0) (tells_eq v 0))

pub later_decided : (r : Words) → Tells (later_word r).means (later_word r).test
later_decided r = tells_and (tells_eq (r.kind / 2 % 2) 0) (tells_not (zeros r.offset r.elem r.word))

zero_decided : (r : Words) → Tells (trailing_word_zero r).means (trailing_word_zero r).test
zero_decided r = tells_and (tells_not (tells_eq (r.kind / 2 % 2) 0)) (tells_eq r.word 0)

pub words_decided : (w : ℕ) (r : Words) → r.align < 2 ^ w → Decided (words_causes w r)
words_decided w r h = (tells_lt 7 r.kind, λ _. (align_decided w r.align h, λ _. (later_decided r, λ _. (zero_decided r, λ _. tt))))

-- 43 is decided; where no test of the record's own refuses, it alone is left
pub tells_fits : (w : ℕ) (r : Words) → Tells (FitsIn w r) (fits_in w r)
tells_fits w r =
    tells_as
    (λ x. record { align = x.0; size = x.1.0; offset = x.1.1.0; elem = x.1.1.1.0; word = x.1.1.1.1 })
    (λ x. (x.align, (x.size, (x.offset, (x.elem, x.word)))))
    (tells_and (tells_le r.align (M w)) (tells_and (tells_le r.size (M w)) (tells_and (tells_le r.offset (M w))
    (tells_and (tells_le r.elem (M w)) (tells_le r.word (M w))))))

own_decided : (s : List ℕ) → word_at s 0 < 2 ^ 64 → Decided (own_causes s)
own_decided s h = (tells_not (tells_eq (length s) 48), λ _. words_decided 64 (words_at s 0) h)

pub record_decided : (w : ℕ) (s : List ℕ) → word_at s 0 < 2 ^ 64 → Decided (record_causes w s)
record_decided w s h =
    decided_both (own_causes s) (number_passes w (words_at s 0) ∷ []) (own_decided s h) (λ _. (tells_not (tells_fits w (words_at s 0)), λ _. tt))

-- words that are not refused are those of their layout
pub decoded : (a k b o e v : ℕ) → (7 < k → ⊥) → (IsFixedKind k × ((o ≡ 0) × ((e ≡ 0) × (v ≡ 0)) → ⊥) → ⊥)
    → let r : Words = record { align = a; kind = k; size = b; offset = o; elem = e; word = v } in words_of (words_layout r) ≡ r
decoded a zero b o e v g f = let z = known (zeros o e v) (λ n. f (refl, n)) in rw (z.0, z.1.0, z.1.1)
decoded a (suc zero) b o e v g f = let z = known (zeros o e v) (λ n. f (refl, n)) in rw (z.0, z.1.0, z.1.1)
decoded a (suc (suc zero)) b o e v g f = refl
decoded a (suc (suc (suc zero))) b o e v g f = refl
decoded a (suc (suc (suc (suc zero)))) b o e v g f = let z = known (zeros o e v) (λ n. f (refl, n)) in rw (z.0, z.1.0, z.1.1)
decoded a (suc (suc (suc (suc (suc zero))))) b o e v g f = let z = known (zeros o e v) (λ n. f (refl, n)) in rw (z.0, z.1.0, z.1.1)
decoded a (suc (suc (suc (suc (suc (suc zero)))))) b o e v g f = refl
decoded a (suc (suc (suc (suc (suc (suc (suc zero))))))) b o e v g f = refl
decoded a (suc (suc (suc (suc (suc (suc (suc (suc k)))))))) b o e v g f = absurd (g (omega arith))

pub words_decode : (w : ℕ) (r : Words) → None (words_causes w r) → Decodes r (words_layout r)
words_decode w r n = decoded r.align r.kind r.size r.offset r.elem r.word n.0 n.1.1.0

pub words_meets : (w : ℕ) (r : Words) → r.align < 2 ^ w → Meets (words_causes w r) (Decodes r) (words_for w r)
unfolding words_for
words_meets w r h = meets (words_causes w r) (words_layout r) (words_decided w r h) (words_decode w r)

pub own_meets : (s : List ℕ) → word_at s 0 < 2 ^ 64 → Meets (own_causes s) (Decodes (words_at s 0)) (own_for s)
unfolding own_for
own_meets s h = meets (own_causes s) (words_layout (words_at s 0)) (own_decided s h) (λ n. words_decode 64 (words_at s 0) n.1)

pub record_meets : (w : ℕ) (s : List ℕ) → word_at s 0 < 2 ^ 64 → Meets (record_causes w s) (Decodes (words_at s 0)) (decode_for w s)
unfolding decode_for
record_meets w s h = meets (record_causes w s) (words_layout (words_at s 0)) (record_decided w s h) (λ n. words_decode 64 (words_at s 0) (none_both (own_causes s) (number_passes w (words_at s 0) ∷ []) n).0.1)

-- a record of the right length is its words
pub own_words : (s : List ℕ) → length s ≡ 48 → own_for s ≡ words_for 64 (words_at s 0)
unfolding own_for words_for unless
own_words s h = simp (eq-eqb (length s) 48 h)

-- at a width: refused as its own tests refuse it, by 43 where a number does not fit, else it is what those tests gave
pub decode_own : (w : ℕ) (s : List ℕ) {k : ℕ} → own_for s ≡ refused k → decode_for w s ≡ refused k
unfolding own_for decode_for
decode_own w s e = refused_first (own_causes s) (number_passes w (words_at s 0) ∷ []) (words_layout (words_at s 0)) (words_layout (words_at s 0)) e

pub decode_passes : (w : ℕ) (s : List ℕ) {l : Layout} → own_for s ≡ answered l → fits_in w (words_at s 0) ≡ false → decode_for w s ≡ refused 43
unfolding own_for decode_for unless
decode_passes w s e h =
    accepted_first (own_causes s) (number_passes w (words_at s 0) ∷ []) (words_layout (words_at s 0)) (words_layout (words_at s 0)) e ∙ rw h

pub decode_fits : (w : ℕ) (s : List ℕ) → fits_in w (words_at s 0) ≡ true → decode_for w s ≡ own_for s
unfolding own_for decode_for unless
decode_fits w s h = go (own_for s) refl
  where
    x : Layout
    x = words_layout (words_at s 0)

    go : (o : Outcome Layout) → own_for s ≡ o → decode_for w s ≡ o
    go (refused k) e = decode_own w s e
    go (answered l) e =
        accepted_first (own_causes s) (number_passes w (words_at s 0) ∷ []) x x e
        ∙ ap (λ (b : Bool). cond (not b) (refused 43) (answered x)) h
        ∙ sym (ap answered (answer_is (own_causes s) x e))

-- what is decoded at a width passed its own tests, and the width holds it
pub decoded_own : (w : ℕ) (s : List ℕ) {l : Layout} → decode_for w s ≡ answered l → (own_for s ≡ answered l) × FitsIn w (words_at s 0)
decoded_own w s {l} e = go (tells_fits w (words_at s 0)) (own_for s) refl
  where
    go : {b : Bool} → Tells (FitsIn w (words_at s 0)) b → (o : Outcome Layout) → own_for s ≡ o → (own_for s ≡ answered l) × FitsIn w (words_at s 0)
    go t (refused k) x = absurd (apart (sym (decode_own w s x) ∙ e))
    go (holds f) (answered m) x = (sym (decode_fits w s (told_true (tells_fits w (words_at s 0)) f)) ∙ e, f)
    go (fails n) (answered m) x = absurd (apart (sym (decode_passes w s x (told_false (tells_fits w (words_at s 0)) n)) ∙ e))

-- the words of a layout by its kind
pub fixed_words : (a k s : ℕ) (m u : Bool) → k ≡ 0 + cond m 1 0 + cond u 4 0 → info_words a k (fixed s) ≡ words_of (record { align = a; info = fixed s; mark = m; modifier = u })
fixed_words a k s m u e = rw e

pub trailing_words : (a k : ℕ) (t : Trailing) (m u : Bool) → k ≡ 2 + cond m 1 0 + cond u 4 0 → info_words a k (trailing t) ≡ words_of (record { align = a; info = trailing t; mark = m; modifier = u })
trailing_words a k t m u e = rw e

-- what encoding gives and leaves: the record where the layout is accepted, and the bytes as they were where it is not
pub encode_checked : (w : ℕ) (l : Layout) (n : ℕ) → n ≡ 48 → encode_for w l n ≡ check_for w l
unfolding encode_for check_for unless
encode_checked w l n h = simp (eq-eqb n 48 h)

-- six words into lent bytes: written, refused by what refuses the words, and by the length
module _ (cs : List Cause) (r : Words) (s : List ℕ) where
  pub write_done : (x : List ℕ) → length s ≡ 48 → ◌≡◌ {A = Outcome (Unit {0})} (unless cs tt) (answered tt) → x ≡ sets s 0 (record_bytes r) → (answered tt ≡ write_for cs (length s)) × (x ≡ written_into cs r s)
  unfolding unless
  write_done x h n e =
      let k : write_for cs (length s) ≡ answered tt = simp (eq-eqb (length s) 48 h) n in
      (sym k, e ∙ sets_whole (record_bytes r) s (record_length_lem r ∙ sym h) ∙ sym (ap (λ (o : Outcome (Unit {0})). after o (record_bytes r) s) k))

  left : {k : ℕ} → write_for cs (length s) ≡ refused k → (refused k ≡ write_for cs (length s)) × (s ≡ written_into cs r s)
  left e = (sym e, sym (ap (λ (o : Outcome (Unit {0})). after o (record_bytes r) s) e))

  pub write_refused : {k : ℕ} → length s ≡ 48 → ◌≡◌ {A = Outcome (Unit {0})} (unless cs tt) (refused k) → (refused k ≡ write_for cs (length s)) × (s ≡ written_into cs r s)
  unfolding unless
  write_refused h n = left (simp (eq-eqb (length s) 48 h) n)

  pub write_other : (length s ≡ 48 → ⊥) → (refused 20 ≡ write_for cs (length s)) × (s ≡ written_into cs r s)
  unfolding unless
  write_other n = left (simp (ne_eqb (length s) 48 n))
