-- What the outcomes of the functions of trailing layouts mean, and what they are by the parts a and q of the word, at any width w. Assumes nothing.
use mathlib.Core.Path.{◌≡◌, refl, sym, ap, ◌∙◌}
use Prim.Native.Nat.{ℕ, ◌+◌, ◌-◌, ◌*◌, ◌%◌, ◌^◌, ◌≤◌, ◌<◌}
use lib.Pow.{pow_pos}
use borrow.Author.Tests.{lt-ltb, le-ltb, ne_eqb}
use native.Mathlib.Nat.{mod-lt}
use native.Mathlib.Omega.{arith}
use Rattle.util_defs.specs.Width.{M}
use Rattle.util_defs.specs.Round.{up, down}
use Rattle.util_defs.specs.Refusal.{answered, refused, unless, Meets}
use Rattle.util_defs.proofs.Refusals.{known, yes, tells_eq, tells_le, tells_lt, meets}
use Rattle.util_defs.proofs.Powers.{positive, double}
use Rattle.util_defs.proofs.Rounding.{down_is}
use Rattle.rounding.specs.Word.{IsWord, word_causes}
use Rattle.rounding.proofs.Words.{parts_of_lem, at_parts, not_zero}
use Rattle.trailing_defs.specs.Size.{Trailing, A, p, size_with, size_at, size_offset}
use Rattle.trailing_defs.specs.Count.{bytes_within}
use Rattle.trailing_defs.specs.Sequence.{same_sequence}
use Rattle.trailing_defs.specs.Calls.{size_offset_for, SizeOffset, max_trailing_causes, max_trailing_for, GreatestIn, padding_at, padding_for_elems, PaddingAt, advance_causes, advanced, advance_for, Advanced, same_causes, same_for, FoundSame}
use Rattle.trailing_defs.proofs.Sizes.{size_zero, size_mono, greatest_bytes, tells_room, bytes_by_blocks, padding_congruent, one_padding, advanced_size}
use Rattle.trailing_defs.proofs.Sequences.{tells_same, same_sizes}

-- the alignment of a word that is not 0
pub align_pos : (w : ℕ) (t : Trailing) → (t.word ≡ 0 → ⊥) → t.word < 2 ^ w → 0 < A w t
align_pos w t n h = positive (parts_of_lem w t.word (omega (arith, n)) h).power

pub size_offset_meets : (w : ℕ) (t : Trailing) → t.word < 2 ^ w → Meets (word_causes t.word) (SizeOffset t) (size_offset_for w t)
unfolding size_offset_for
size_offset_meets w t h =
    meets (word_causes t.word) (size_offset w t) (tells_eq t.word 0, λ _. tt)
    (λ n. record {
      align = A w t;
      phase = p w t;
      word = parts_of_lem w t.word (omega (arith, n.0)) h;
      base = down t.base (A w t);
      aligned = down_is t.base (A w t) (align_pos w t n.0 h);
      sum = refl;
    })

pub size_offset_parts : {a q : ℕ} (w : ℕ) (t : Trailing) → IsWord t.word a q → t.word < 2 ^ w → size_offset_for w t ≡ answered (down t.base a + q)
unfolding size_offset_for unless
size_offset_parts w t x h =
    simp (ne_eqb t.word 0 (λ z. omega (arith, not_zero x))) (at_parts w (λ a q. answered (down t.base a + q)) x h)

-- the size at 0 is within the room where not every size is past it
room : (w : ℕ) (t : Trailing) (L : ℕ) → 0 < A w t → (((x : ℕ) → size_with t.base (A w t) (p w t) x ≤ L → ⊥) → ⊥) → size_with t.base (A w t) (p w t) 0 ≤ L
room w t L h n =
    known (tells_le (size_with t.base (A w t) (p w t) 0) L)
    (λ m. n (λ x f. m (omega (arith, size_mono t.base (A w t) (p w t) 0 x h (omega arith)))))

pub max_trailing_meets : (w : ℕ) (t : Trailing) (L : ℕ) → t.word < 2 ^ w → Meets (max_trailing_causes w t L) (GreatestIn w t L) (max_trailing_for w t L)
unfolding max_trailing_for
max_trailing_meets w t L h =
    meets (max_trailing_causes w t L) (bytes_within t.base (A w t) (p w t) L)
    (tells_eq t.word 0, λ n. (tells_room t.base (A w t) (p w t) t.elem L (align_pos w t n h), λ _. tt))
    (λ n. greatest_bytes t.base (A w t) (p w t) L (align_pos w t n.0 h) (room w t L (align_pos w t n.0 h) n.1.0))

-- the size at 0 by the parts
pub size_first : {a q : ℕ} (w : ℕ) (t : Trailing) → IsWord t.word a q → t.word < 2 ^ w → size_at w t 0 ≡ t.base + up q a
size_first w t x h = size_zero t.base (A w t) (p w t) t.elem ∙ at_parts w (λ a q. t.base + up q a) x h

pub max_trailing_refused : {a q : ℕ} (w : ℕ) (t : Trailing) (L : ℕ) → IsWord t.word a q → t.word < 2 ^ w → L < t.base + up q a → max_trailing_for w t L ≡ refused 16
unfolding max_trailing_for unless
max_trailing_refused w t L x h l =
    simp (ne_eqb t.word 0 (λ z. omega (arith, not_zero x)), lt-ltb L (size_at w t 0) (omega (arith, size_first w t x h)))

pub max_trailing_answered : {a q : ℕ} (w : ℕ) (t : Trailing) (L u d : ℕ) → IsWord t.word a q → t.word < 2 ^ w → u ≡ up q a → t.base + u ≤ L
    → d ≡ down (L - (t.base + u)) a → max_trailing_for w t L ≡ answered (d + (u - q))
unfolding max_trailing_for unless
max_trailing_answered {a} {q} w t L u d x h e l ed =
    let s = bytes_by_blocks t.base a q L u (positive x.power) e l in
    simp (ne_eqb t.word 0 (λ z. omega (arith, not_zero x)), le-ltb L (size_at w t 0) (omega (arith, size_first w t x h)))
    (ap answered (at_parts w (λ a q. bytes_within t.base a q L) x h ∙ sym s ∙ ap (λ (z : ℕ). z + (u - q)) (sym ed)))

pub padding_meets : (w : ℕ) (t : Trailing) (n : ℕ) → t.word < 2 ^ w → Meets (word_causes t.word) (PaddingAt w t n) (padding_for_elems w t n)
unfolding padding_for_elems
padding_meets w t n h = meets (word_causes t.word) (padding_at w t n) (tells_eq t.word 0, λ _. tt) (λ _. padding_congruent w t n (pow_pos w))

pub padding_answered : (w : ℕ) (t : Trailing) (n r : ℕ) → 0 < t.word → PaddingAt w t n r → padding_for_elems w t n ≡ answered r
unfolding padding_for_elems unless
padding_answered w t n r h c =
    simp (ne_eqb t.word 0 (λ z. omega arith)) (ap answered (one_padding (pow_pos w) (padding_congruent w t n (pow_pos w)) c))

-- an advanced layout: its word, and its sizes
pub advanced_word : (w : ℕ) (t : Trailing) (y e : ℕ) → 0 < t.word → t.word < 2 ^ w → IsWord (advanced w t y e).word (A w t) ((p w t + y) % A w t)
unfolding advanced
advanced_word w t y e n h =
    let x = parts_of_lem w t.word n h in
    record { power = x.power; below = mod-lt (p w t + y) (positive x.power); sum = refl }

pub advanced_word_lt : (w : ℕ) (t : Trailing) (y e : ℕ) → 0 < t.word → t.word < 2 ^ w → (advanced w t y e).word < 2 ^ w
advanced_word_lt w t y e n h =
    let x = parts_of_lem w t.word n h in
    let z = advanced_word w t y e n h in
    omega (arith, double w x.power (omega (arith, x.sum)), z.sum, z.below)

pub advanced_sizes : (w : ℕ) (t : Trailing) (y e n : ℕ) → 0 < t.word → t.word < 2 ^ w → size_at w (advanced w t y e) n ≡ size_with t.base (A w t) (p w t) (y + n * e)
unfolding advanced
advanced_sizes w t y e n pos h =
    at_parts w (λ a q. size_with (t.base + down (p w t + y) (A w t)) a q (n * e)) (advanced_word w t y e pos h) (advanced_word_lt w t y e pos h)
    ∙ advanced_size t.base (A w t) (p w t) y (n * e) (positive (parts_of_lem w t.word pos h).power)

pub advance_means : (w : ℕ) (t : Trailing) (y e : ℕ) → 0 < t.word → t.word < 2 ^ w → Advanced w t y e (advanced w t y e)
unfolding advanced
advance_means w t y e pos h = record {
  offset = refl;
  elem = refl;
  base = refl;
  word = advanced_word w t y e pos h;
  sizes = λ n. advanced_sizes w t y e n pos h;
}

pub advance_meets : (w : ℕ) (t : Trailing) (y e : ℕ) → t.word < 2 ^ w → Meets (advance_causes w t y) (Advanced w t y e) (advance_for w t y e)
unfolding advance_for
advance_meets w t y e h =
    meets (advance_causes w t y) (advanced w t y e) (tells_eq t.word 0, λ _. (tells_lt (M w) (size_offset w t + y), λ _. tt))
    (λ n. advance_means w t y e (omega (arith, n.0)) h)

-- the outcome of an advance by the parts
pub advance_refused : {a q : ℕ} (w : ℕ) (t : Trailing) (y e : ℕ) → IsWord t.word a q → t.word < 2 ^ w → M w < down t.base a + q + y → advance_for w t y e ≡ refused 17
unfolding advance_for unless
advance_refused w t y e x h l =
    let o = at_parts w (λ a q. down t.base a + q) x h in
    simp (ne_eqb t.word 0 (λ z. omega (arith, not_zero x)), lt-ltb (M w) (size_offset w t + y) (omega arith))

pub advance_answered : {a q : ℕ} (w : ℕ) (t : Trailing) (y e : ℕ) → IsWord t.word a q → t.word < 2 ^ w → down t.base a + q + y ≤ M w
    → advance_for w t y e ≡ answered (record { offset = t.offset; elem = e; base = t.base + down (q + y) a; word = a + (q + y) % a })
unfolding advance_for advanced unless
advance_answered w t y e x h l =
    let o = at_parts w (λ a q. down t.base a + q) x h in
    simp (ne_eqb t.word 0 (λ z. omega (arith, not_zero x)), le-ltb (M w) (size_offset w t + y) (omega arith))
    (at_parts w (λ a q. answered (record { offset = t.offset; elem = e; base = t.base + down (q + y) a; word = a + (q + y) % a })) x h)

pub same_meets : (w : ℕ) (s t : Trailing) → s.word < 2 ^ w → t.word < 2 ^ w → Meets (same_causes s t) (FoundSame w s t) (same_for w s t)
unfolding same_for
same_meets w s t hs ht =
    meets (same_causes s t) (same_sequence w s t) (tells_eq s.word 0, λ _. (tells_eq t.word 0, λ _. tt))
    (λ n. record {
      exactly = tells_same w s t;
      means = λ e. same_sizes w s t (omega (arith, n.0)) hs (omega (arith, n.1.0)) ht (yes (tells_same w s t) e);
    })

pub same_answered : (w : ℕ) (s t : Trailing) → 0 < s.word → 0 < t.word → same_for w s t ≡ answered (same_sequence w s t)
unfolding same_for unless
same_answered w s t ps pt = simp (ne_eqb s.word 0 (λ z. omega arith), ne_eqb t.word 0 (λ z. omega arith))

pub size_offset_answered : (w : ℕ) (t : Trailing) → 0 < t.word → size_offset_for w t ≡ answered (size_offset w t)
unfolding size_offset_for unless
size_offset_answered w t h = simp (ne_eqb t.word 0 (λ z. omega arith))
