-- Trailing layouts at v bits, by w: sizes, room, padding and advance. Assumes nothing.
use mathlib.Core.Path.{◌≡◌, refl, sym, ap, ◌∙◌, subst}
use mathlib.Core.Bool.{Bool, cond}
use mathlib.Core.List.{[], ◌∷◌}
use Prim.Native.Nat.{ℕ, ◌+◌, ◌-◌, ◌*◌, ◌%◌, ◌^◌, ◌≤◌, ◌<◌}
use native.Mathlib.Nat.{mod-eq_of_lt, mod-lt, mod-add-mod}
use native.Mathlib.Omega.{arith}
use lib.Pow.{pow_pos, pow_mono}
use lib.Dec.{leb}
use borrow.Author.Tests.{lt-leb, le-leb, lt-ltb, le-ltb, ne_eqb}
use Rattle.util_defs.specs.Width.{M}
use Rattle.util_defs.specs.Power.{PowerOfTwo}
use Rattle.util_defs.specs.Round.{down}
use Rattle.util_defs.specs.Refusal.{Outcome, answered, unless, Tells, holds, fails, Meets}
use Rattle.util_defs.proofs.Refusals.{known, answered_means, tells_eq, tells_le, tells_lt}
use Rattle.util_defs.proofs.Powers.{positive, divides, power_divides, mod-through}
use Rattle.util_defs.proofs.Rounding.{next_multiple, sum_multiple, down_multiple, down_le, down_near}
use Rattle.rounding.specs.Word.{word_zero, word_causes}
use Rattle.rounding.proofs.Words.{parts_of_lem}
use Rattle.trailing_defs.specs.Size.{Trailing, A, p, size_with, size_at, HasSize, size_offset}
use Rattle.trailing_defs.specs.Count.{bytes_within, count_within}
use Rattle.trailing_defs.specs.Calls.{size_offset_for, max_trailing_causes, max_trailing_for, GreatestIn, padding_at, padding_for_elems, advance_passes, advance_causes, advanced, advance_for}
use Rattle.trailing_defs.specs.Sized.{SizeOutcome, sized, none_above, refused_by, size_given, SizeMeans, above}
use Rattle.trailing_defs.proofs.Sizes.{size_mono, size_ge, tells_room, padding_congruent, one_padding, offset_fits, advance_fits}
use Rattle.trailing_defs.proofs.Calls.{align_pos, max_trailing_meets, advanced_word_lt}
use Rattle.trailing_defs.proofs.Sized.{given_zero, given_none, given_above, given_size, elem_some, size_means}
use Rattle.widths_defs.specs.Low.{mapped, low, low_tail, TailIn}
use Rattle.widths_defs.specs.Within.{none_within, size_within, advance_within}
use Rattle.widths_defs.proofs.Widths.{held, same_highest, low_tail_lem, unless_same, tables, limit}

-- the size at a count, and the size offset
pub same_at : (v w : ℕ) (t : Trailing) (n : ℕ) → v ≤ w → t.word < 2 ^ v → size_at v t n ≡ size_at w t n
same_at v w t n l h = ap (λ (a : ℕ). size_with t.base a (t.word - a) (n * t.elem)) (same_highest v w t.word l h)

pub same_offset : (v w : ℕ) (t : Trailing) → v ≤ w → t.word < 2 ^ v → size_offset v t ≡ size_offset w t
same_offset v w t l h = ap (λ (a : ℕ). down t.base a + (t.word - a)) (same_highest v w t.word l h)

-- `size_offset`: the same
pub offset_same : (v w : ℕ) (t : Trailing) → v ≤ w → t.word < 2 ^ v → size_offset_for v t ≡ size_offset_for w t
unfolding size_offset_for
offset_same v w t l h = simp (same_highest v w t.word l h)

pub offset_low : (v w : ℕ) (t : Trailing) → v ≤ w → TailIn v t → size_offset_for v t ≡ mapped (low v) (size_offset_for w t)
unfolding size_offset_for
offset_low v w t l h =
    unless_same (low v) (word_causes t.word) (size_offset v t) (tells_eq t.word 0, λ _. tt)
    (λ n.
    let x = parts_of_lem v t.word (omega (arith, n.0)) h.word in
    mod-eq_of_lt (offset_fits v t.base x.power (omega (arith, x.sum, h.word)) h.base x.below))
    ∙ ap (mapped (low v)) (offset_same v w t l h.word)

-- `max_trailing_bytes`: the same
pub room_same : (v w : ℕ) (t : Trailing) (L : ℕ) → v ≤ w → t.word < 2 ^ v → max_trailing_for v t L ≡ max_trailing_for w t L
unfolding max_trailing_for unless
room_same v w t L l h = simp (same_highest v w t.word l h)

bytes_le : (b a q L : ℕ) → bytes_within b a q L ≤ L
unfolding bytes_within
bytes_le b a q L = omega (arith, down_le (L - b) a)

pub room_low : (v w : ℕ) (t : Trailing) (L : ℕ) → v ≤ w → t.word < 2 ^ v → L < 2 ^ v → max_trailing_for v t L ≡ mapped (low v) (max_trailing_for w t L)
unfolding max_trailing_for
room_low v w t L l h h_l =
    unless_same (low v) (max_trailing_causes v t L) (bytes_within t.base (A v t) (p v t) L)
    (tells_eq t.word 0, λ n. (tells_room t.base (A v t) (p v t) t.elem L (align_pos v t n h), λ _. tt))
    (λ _. mod-eq_of_lt (omega (arith, bytes_le t.base (A v t) (p v t) L))) ∙ ap (mapped (low v)) (room_same v w t L l h)

-- the room of M at v: the greatest count that has a size there, and none where count 0 has none
room_none : (w : ℕ) (t : Trailing) (L : ℕ) → 0 < t.word → L < size_at w t 0 → none_within t.elem (max_trailing_for w t L) ≡ refused_by 39
unfolding max_trailing_for unless
room_none w t L h l = simp (ne_eqb t.word 0 (λ z. omega arith), lt-ltb L (size_at w t 0) l)

room_some : (w : ℕ) (t : Trailing) (L : ℕ) → 0 < t.word → size_at w t 0 ≤ L → none_within t.elem (max_trailing_for w t L) ≡ none_above (count_within w t L)
unfolding max_trailing_for unless count_within
room_some w t L h l = simp (ne_eqb t.word 0 (λ z. omega arith), le-ltb L (size_at w t 0) l)

same_count : (v w : ℕ) (t : Trailing) (L : ℕ) → v ≤ w → t.word < 2 ^ v → count_within v t L ≡ count_within w t L
unfolding count_within
same_count v w t L l h = simp (same_highest v w t.word l h)

-- `size_for_elems`: where the size passes M at v, 15 with the greatest count there, or 39
pub size_narrows : (v w : ℕ) (t : Trailing) (n : ℕ) → v ≤ w → t.word < 2 ^ v
    → size_given v t n ≡ size_within (M v) t.elem (max_trailing_for w t (M v)) (size_given w t n)
size_narrows v w t n l h = go (tells_eq t.word 0) (tells_le (size_at w t 0) (M w)) (tells_le (size_at w t n) (M w)) (tells_le (size_at v t 0) (M v)) (tells_le (size_at v t n) (M v))
  where
    m : 2 ^ v ≤ 2 ^ w
    m = pow_mono l

    N : SizeOutcome → SizeOutcome
    N = size_within (M v) t.elem (max_trailing_for w t (M v))

    -- what comes at v where the size passes M there
    none : 0 < t.word → M v < size_at v t n → {b : Bool} → Tells (HasSize v t 0) b → size_given v t n ≡ none_within t.elem (max_trailing_for w t (M v))
    none pos g (holds z) =
        given_above v t n pos z g ∙ ap none_above (same_count v w t (M v) l h) ∙ sym (room_some w t (M v) pos (omega (arith, z, same_at v w t 0 l h)))
    none pos g (fails z) = given_none v t n pos (omega (arith, z)) ∙ sym (room_none w t (M v) pos (omega (arith, z, same_at v w t 0 l h)))

    -- what comes of a size at w, by whether it is at most M at v
    there : {b : Bool} → 0 < t.word → HasSize w t n → leb (size_at w t n) (M v) ≡ b → N (size_given w t n) ≡ cond b (sized (size_at w t n)) (none_within t.elem (max_trailing_for w t (M v)))
    there pos g e =
        ap N (given_size w t n pos (held v w l h) g) ∙ ap (λ (q : Bool). cond q (sized (size_at w t n)) (none_within t.elem (max_trailing_for w t (M v)))) e

    go : {x a b c d : Bool} → Tells (t.word ≡ 0) x → Tells (HasSize w t 0) a → Tells (HasSize w t n) b → Tells (HasSize v t 0) c → Tells (HasSize v t n) d
        → size_given v t n ≡ N (size_given w t n)
    go (holds z) a b c d = given_zero v t n z ∙ sym (ap N (given_zero w t n z))
    go (fails z) (fails a) b c d =
        given_none v t n (omega (arith, z)) (omega (arith, a, m, same_at v w t 0 l h)) ∙ sym (ap N (given_none w t n (omega (arith, z)) (omega (arith, a))))
    go (fails z) (holds a) (fails b) c d =
        none (omega (arith, z)) (omega (arith, b, m, same_at v w t n l h)) c ∙ sym (ap N (given_above w t n (omega (arith, z)) a (omega (arith, b))))
    go (fails z) (holds a) (holds b) c (fails d) =
        none (omega (arith, z)) (omega (arith, d)) c
        ∙ sym (there (omega (arith, z)) b (lt-leb (size_at w t n) (M v) (omega (arith, d, same_at v w t n l h))))
    go (fails z) (holds a) (holds b) c (holds d) =
        given_size v t n (omega (arith, z)) h d ∙ ap sized (same_at v w t n l h)
        ∙ sym (there (omega (arith, z)) b (le-leb (size_at w t n) (M v) (omega (arith, d, same_at v w t n l h))))

-- `padding_for_elems`: modulo 2 ^ v
padding_mod : (v w : ℕ) (t : Trailing) (n : ℕ) → v ≤ w → t.word < 2 ^ v → padding_at v t n ≡ low v (padding_at w t n)
padding_mod v w t n l h =
    let N = 2 ^ v in
    let W = 2 ^ w in
    let P = padding_at w t n in
    let x = t.offset + n * t.elem in
    let d : W % N ≡ 0 = power_divides (record { exponent = v; power = refl }) (record { exponent = w; power = refl }) (pow_mono l) in
    let c = (padding_congruent w t n (pow_pos w)).congruent in
    one_padding (pow_pos v) (padding_congruent v t n (pow_pos v))
    (record {
      within = omega (arith, mod-lt P (pow_pos v));
      congruent =
          ap (λ (z : ℕ). z % N) {x = P % N + t.offset + n * t.elem} {y = P % N + x} (omega arith) ∙ mod-add-mod P N x
          ∙ sym (mod-through N W (P + x) d) ∙ ap (λ (z : ℕ). z % W % N) {x = P + x} {y = P + t.offset + n * t.elem} (omega arith) ∙ ap (λ (z : ℕ). z % N) c
          ∙ mod-through N W (size_at w t n) d ∙ ap (λ (z : ℕ). z % N) (sym (same_at v w t n l h));
    })

pub padding_for_elems_low : (v w : ℕ) (t : Trailing) (n : ℕ) → v ≤ w → t.word < 2 ^ v → padding_for_elems v t n ≡ mapped (low v) (padding_for_elems w t n)
unfolding padding_for_elems unless
padding_for_elems_low v w t n l h =
    tables (mapped (low v)) (λ k. refl) (word_causes t.word) (word_causes t.word) [] [] (padding_at v t n) (padding_at w t n)
    ((refl, refl), tt) (tells_eq t.word 0, λ _. tt) (λ _. ap answered (padding_mod v w t n l h))

-- `advance`: base and phase pass M exactly where the base does
base_within : {a : ℕ} (v b q y : ℕ) → PowerOfTwo a → a < 2 ^ v → b + down (q + y) a < 2 ^ v → down b a + q + y < 2 ^ v
base_within {a} v b q y pw h l =
    let m = sum_multiple a (down b a) (down (q + y) a) (down_multiple b a) (down_multiple (q + y) a) in
    omega (arith, next_multiple a (down b a + down (q + y) a) (2 ^ v) m (divides v pw h) (omega (arith, down_le b a)), down_near (q + y) a (positive pw))

pub advance_narrows : (v w : ℕ) (t : Trailing) (y e : ℕ) → v ≤ w → t.word < 2 ^ v → advance_for v t y e ≡ advance_within (M v) (advance_for w t y e)
unfolding advance_for unless advanced
advance_narrows v w t y e l h =
    tables (advance_within (M v)) (λ k. refl) (word_zero t.word ∷ []) (word_zero t.word ∷ []) (advance_passes v t y ∷ []) (advance_passes w t y ∷ []) (advanced v t y e) (advanced w t y e)
    ((refl, refl), tt) (tells_eq t.word 0, λ _. tt)
    (λ n.
    let m : 2 ^ v ≤ 2 ^ w = pow_mono l in
    let x = parts_of_lem w t.word (omega (arith, n.0)) (held v w l h) in
    let a : A w t < 2 ^ v = omega (arith, x.sum) in
    let s = size_offset w t + y in
    let b = t.base + down (p w t + y) (A w t) in
    simp (same_highest v w t.word l h)
    (limit 17 (advanced w t y e) (λ z. leb z.base (M v)) (tells_lt (M v) s) (tells_lt (M w) s) (λ q. omega (arith, q))
    (λ g. lt-leb b (M v) (known (tells_lt (M v) b) (λ f. let i : b < 2 ^ v = omega (arith, f, pow_pos v) in omega (arith, g, base_within v t.base (p w t) y x.power a i))))
    (λ g. le-leb b (M v) (let i = advance_fits v t.base (p w t) y x.power a (omega (arith, g, pow_pos v)) in omega (arith, i)))))

pub advance_low : (v w : ℕ) (t : Trailing) (y e : ℕ) → v ≤ w → TailIn v t → e < 2 ^ v → advance_for v t y e ≡ mapped (low_tail v) (advance_within (M v) (advance_for w t y e))
unfolding advance_for advanced
advance_low v w t y e l h he =
    unless_same (low_tail v) (advance_causes v t y) (advanced v t y e) (tells_eq t.word 0, λ _. (tells_lt (M v) (size_offset v t + y), λ _. tt))
    (λ n.
    let pos : 0 < t.word = omega (arith, n.0) in
    let x = parts_of_lem v t.word pos h.word in
    let b : t.base + down (p v t + y) (A v t) < 2 ^ v = advance_fits v t.base (p v t) y x.power (omega (arith, x.sum, h.word)) (omega (arith, n.1.0, pow_pos v)) in
    low_tail_lem v (advanced v t y e) (record { offset = h.offset; elem = he; base = b; word = advanced_word_lt v t y e pos h.word }))
    ∙ ap (mapped (low_tail v)) (advance_narrows v w t y e l h.word)

-- what the callers of `max_trailing_bytes` and `size_for_elems` need: the room holds the bytes, and count 0; elements have a size
-- where M at v holds a size at 0 and none at n
pub room_holds : {m : ℕ} (w : ℕ) (t : Trailing) (L : ℕ) → t.word < 2 ^ w → max_trailing_for w t L ≡ answered m → (size_at w t 0 ≤ L) × (m ≤ L)
room_holds {m} w t L h e =
    let q = answered_means (subst (λ (o : Outcome ℕ). Meets (max_trailing_causes w t L) (GreatestIn w t L) o) e (max_trailing_meets w t L h)) in
    let a = align_pos w t q.0.0 h in
    let f = q.1.fits in (
      omega (arith, f, size_mono t.base (A w t) (p w t) (0 * t.elem) m a (omega arith)),
      omega (arith, f, size_ge t.base (A w t) (p w t) m a),
    )

pub elem_needed : (v w : ℕ) (t : Trailing) (n : ℕ) → v ≤ w → t.word < 2 ^ v → M v < size_at w t n → size_at w t 0 ≤ M v → 0 < t.elem
elem_needed v w t n l h g z = elem_some v t n (omega (arith, z, same_at v w t 0 l h)) (omega (arith, g, same_at v w t n l h))

-- `size_for_elems` by each of the answers at w
module _ (v w : ℕ) (t : Trailing) (n : ℕ) (l : v ≤ w) (h : t.word < 2 ^ v) where
  abbrev none : SizeOutcome
  none = none_within t.elem (max_trailing_for w t (M v))

  by_answer : {o : SizeOutcome} → size_given w t n ≡ o → size_given v t n ≡ size_within (M v) t.elem (max_trailing_for w t (M v)) o
  by_answer e = size_narrows v w t n l h ∙ ap (size_within (M v) t.elem (max_trailing_for w t (M v))) e

  pub size_kept : {s : ℕ} → size_given w t n ≡ sized s → s ≤ M v → sized s ≡ size_given v t n
  size_kept {s} e g = sym (by_answer e ∙ ap (λ (b : Bool). cond b (sized s) none) (le-leb s (M v) g))

  pub size_past : {s : ℕ} → size_given w t n ≡ sized s → M v < s → none ≡ size_given v t n
  size_past {s} e g = sym (by_answer e ∙ ap (λ (b : Bool). cond b (sized s) none) (lt-leb s (M v) g))

  pub size_none : {g : ℕ} → size_given w t n ≡ none_above g → none ≡ size_given v t n
  size_none e = sym (by_answer e)

  pub size_refused : {k : ℕ} → size_given w t n ≡ refused_by k → refused_by k ≡ size_given v t n
  size_refused e = sym (by_answer e)

-- an outcome that is the one given means what that means; no size at n passes M
pub told_size : {o : SizeOutcome} (w : ℕ) (t : Trailing) (n : ℕ) → t.word < 2 ^ w → o ≡ size_given w t n → (o ≡ size_given w t n) × SizeMeans w t n o
told_size w t n h e = (e, subst (SizeMeans w t n) (sym e) (size_means w t n h))

pub none_past : {g : ℕ} (w : ℕ) (t : Trailing) (n : ℕ) → SizeMeans w t n (none_above g) → M w < size_at w t n
none_past w t n (above f x) = let no : size_at w t n ≤ M w → ⊥ = λ h. omega (arith, x.greatest.greatest n h, x.below) in omega (arith, no)
