-- Final padding: the sizes are the old ones rounded up, at any width w. Assumes nothing.
use mathlib.Core.Path.{◌≡◌, refl, sym, ap, ap₂, ◌∙◌}
use mathlib.Core.Bool.{Bool, true, false, cond}
use mathlib.Core.List.{[], ◌∷◌}
use Prim.Native.Nat.{ℕ, zero, suc, ◌+◌, ◌*◌, ◌%◌, ◌^◌, ◌≤◌, ◌<◌}
use native.Mathlib.Nat.{mod-lt}
use native.Mathlib.Omega.{arith}
use lib.Dec.{eqb, ltb}
use borrow.Author.Tests.{ltb-true, ltb-false}
use Rattle.util_defs.specs.Width.{M}
use Rattle.util_defs.specs.Power.{PowerOfTwo}
use Rattle.util_defs.specs.Round.{up, down}
use Rattle.util_defs.specs.Refusal.{Tells, None, Meets, Decided}
use Rattle.util_defs.proofs.Refusals.{tells_true, tells_eq, tells_lt, tells_and, tells_as, agree, meets}
use Rattle.util_defs.proofs.Powers.{positive, double, power_divides, through}
use Rattle.util_defs.proofs.Rounding.{down_is, down_mod, up_multiple, up_ge, up_near, up_is, up_least, up_shift, up_whole, down_multiple}
use Rattle.util_defs.proofs.Helpers.{power}
use Rattle.rounding.specs.Word.{IsWord}
use Rattle.rounding.proofs.Words.{align_is, phase_is, align_power}
use Rattle.trailing_defs.specs.Size.{Trailing, A, p, size_with, size_at}
use Rattle.layout_defs.specs.Layout.{Info, fixed, trailing, Layout, size_in, no_word, layout_causes}
use Rattle.layout_defs.specs.Extend.{rounding_passes}
use Rattle.padding_defs.specs.Pad.{fixed_part, coarser, finer, padded_tail, padded_info, padded, padding_needs, padded_mark, pad_causes, pad_for, PaddedTo, PaddedInfo, KeepsMark, Padded}
use Rattle.util_defs.proofs.Tables.{decided_both, none_both}
use Rattle.layout_defs.proofs.Layouts.{layout_decided}
use Rattle.layout_defs.proofs.Passes.{least_place}

-- rounding up to A first changes nothing where A divides a
pub up_up : (v A a : ℕ) → 0 < A → 0 < a → a % A ≡ 0 → up (up v A) a ≡ up v a
up_up v A a h g d =
    let l : up v A ≤ up v a = up_least v A (up v a) h (through A a (up v a) d (up_multiple v a)) (up_ge v a g) in
    sym (up_is (up v A) a (up v a) g (up_multiple v a) l (omega (arith, up_near v a g, up_ge v A h)))

-- the alignment of a rounding word that is not 0, at a width that holds a power of two
pub word_power : (w : ℕ) {a : ℕ} (t : Trailing) → PowerOfTwo a → a < 2 ^ w → (t.word ≡ 0 → ⊥) → PowerOfTwo (A w t)
word_power zero {a} t q h n = absurd (omega (arith, positive q))
word_power (suc k) t q h n = align_power (suc k) t.word (omega arith) (omega (arith, n))

-- A divides a: the fixed part is rounded down to a and its rest is the phase
coarser_with : (b A p x a : ℕ) → 0 < A → 0 < a → a % A ≡ 0
    → size_with (down (up b A + p) a) a ((up b A + p) % a) x ≡ up (size_with b A p x) a
unfolding size_with
coarser_with b A p x a h g d =
    let f = up b A + p in
    let u = up (p + x) A in
    let m : down f a + f % a ≡ f = down_mod f a in
    let s : down f a + (f % a + x) ≡ up b A + (p + x) = omega arith in
    let i : u + b ≡ b + u = omega arith in
    let j : up b A + u ≡ u + up b A = omega arith in
    sym (up_shift (f % a + x) a (down f a) g (down_multiple f a))
    ∙ ap (λ (y : ℕ). up y a) s
    ∙ sym (up_up (up b A + (p + x)) A a h g d)
    ∙ ap (λ (y : ℕ). up y a) (up_shift (p + x) A (up b A) h (up_multiple b A) ∙ j ∙ sym (up_shift b A u h (up_multiple (p + x) A)))
    ∙ up_up (u + b) A a h g d
    ∙ ap (λ (y : ℕ). up y a) i

-- a divides A: the rounded part is a multiple of a, so that the base alone is rounded
finer_with : (b A p x a : ℕ) → 0 < a → A % a ≡ 0 → size_with (up b a) A p x ≡ up (size_with b A p x) a
unfolding size_with
finer_with b A p x a g d =
    let u = up (p + x) A in
    let i : u + b ≡ b + u = omega arith in
    let s : up (u + b) a ≡ u + up b a = up_shift b a u g (through a A u d (up_multiple (p + x) A)) in
    let j : up b a + u ≡ u + up b a = omega arith in
    j ∙ sym s ∙ ap (λ (y : ℕ). up y a) i

-- the word of the padded layout where a is above A, and its parts
coarser_word : (w : ℕ) {a : ℕ} (t : Trailing) → PowerOfTwo a → IsWord (coarser w a t).word a (fixed_part w t % a)
coarser_word w t q = record { power = q; below = mod-lt (fixed_part w t) (positive q); sum = refl }

coarser_fits : (w : ℕ) {a : ℕ} (t : Trailing) → PowerOfTwo a → a < 2 ^ w → (coarser w a t).word < 2 ^ w
coarser_fits w t q h = omega (arith, mod-lt (fixed_part w t) (positive q), double w q h)

pub coarser_align : (w : ℕ) {a : ℕ} (t : Trailing) → PowerOfTwo a → a < 2 ^ w → A w (coarser w a t) ≡ a
coarser_align w t q h = sym (align_is w (coarser_word w t q) (coarser_fits w t q h))

coarser_phase : (w : ℕ) {a : ℕ} (t : Trailing) → PowerOfTwo a → a < 2 ^ w → p w (coarser w a t) ≡ fixed_part w t % a
coarser_phase w t q h = sym (phase_is w (coarser_word w t q) (coarser_fits w t q h))

-- the padded sizes of a trailing layout are the old ones rounded up, at every count
pub tail_sizes : (w : ℕ) {a : ℕ} (t : Trailing) (n : ℕ) → PowerOfTwo a → a < 2 ^ w → (t.word ≡ 0 → ⊥) → size_at w (padded_tail w a t) n ≡ up (size_at w t n) a
unfolding padded_tail
tail_sizes w {a} t n q h z = go (ltb (A w t) a) refl
  where
    pw : PowerOfTwo (A w t)
    pw = word_power w t q h z

    go : (b : Bool) → ltb (A w t) a ≡ b → size_at w (cond b (coarser w a t) (finer a t)) n ≡ up (size_at w t n) a
    go true e =
        ap₂ (λ (x y : ℕ). size_with (down (fixed_part w t) a) x y (n * t.elem)) (coarser_align w t q h) (coarser_phase w t q h)
        ∙ coarser_with t.base (A w t) (p w t) (n * t.elem) a (positive pw) (positive q) (power_divides pw q (omega (arith, ltb-true (A w t) a e)))
    go false e = finer_with t.base (A w t) (p w t) (n * t.elem) a (positive q) (power_divides q pw (ltb-false (A w t) a e))

-- and the padded tail is what it should be
tail_padded : (w : ℕ) {a : ℕ} (t : Trailing) → PowerOfTwo a → PaddedTo w a t (padded_tail w a t)
unfolding padded_tail
tail_padded w {a} t q = go (ltb (A w t) a) refl
  where
    go : (b : Bool) → ltb (A w t) a ≡ b → PaddedTo w a t (cond b (coarser w a t) (finer a t))
    go true e = record {
      offset = refl;
      elem = refl;
      below = λ _. (down_is (fixed_part w t) a (positive q), coarser_word w t q);
      other = λ h. absurd (omega (arith, ltb-true (A w t) a e));
    }
    go false e = record {
      offset = refl;
      elem = refl;
      below = λ h. absurd (omega (arith, ltb-false (A w t) a e));
      other = λ _. (least_place t.base a (positive q), refl);
    }

info_padded : (w : ℕ) {a : ℕ} (i : Info) → PowerOfTwo a → PaddedInfo w a i (padded_info w a i)
info_padded w {a} (fixed s) q = least_place s a (positive q)
info_padded w (trailing t) q = tail_padded w t q

mark_told : (w a : ℕ) (i : Info) (mark : Bool) → Tells ((mark ≡ true) × KeepsMark i (padded_info w a i)) (padded_mark a i mark)
mark_told w a (fixed s) mark =
    tells_and (tells_true mark) (tells_as (ap fixed) (λ (e : fixed (up s a) ≡ fixed s). cc) (tells_eq (up s a) s))
mark_told w a (trailing t) mark = tells_as (λ e. (e, tt)) (λ x. x.0) (tells_true mark)

info_sizes : (w : ℕ) {a : ℕ} (i : Info) (n : ℕ) → PowerOfTwo a → a < 2 ^ w → ((no_word i).means → ⊥) → size_in w (padded_info w a i) n ≡ up (size_in w i n) a
info_sizes w (fixed s) n q h z = refl
info_sizes w (trailing t) n q h z = tail_sizes w t n q h z

-- what padding gives means what it should
pub pad_decided : (w : ℕ) (l : Layout) → l.align < 2 ^ w → Decided (pad_causes w l)
pad_decided w l h =
    decided_both (layout_causes w l) (rounding_passes w (padding_needs w l.align l.info) ∷ []) (layout_decided w l h)
    (λ _. (tells_lt (M w) (padding_needs w l.align l.info), λ _. tt))

pub padded_is : (w : ℕ) (l : Layout) → l.align < 2 ^ w → None (layout_causes w l) → Padded w l (padded w l)
unfolding padded
padded_is w l h z =
    let q : PowerOfTwo l.align = power w l.align h z.0 in
    record {
      align = refl;
      info = info_padded w l.info q;
      mark = mark_told w l.align l.info l.mark;
      modifier = refl;
      sizes = λ n _. info_sizes w l.info n q h z.1.0;
    }

pub pad_meets : (w : ℕ) (l : Layout) → l.align < 2 ^ w → Meets (pad_causes w l) (Padded w l) (pad_for w l)
unfolding pad_for
pad_meets w l h =
    meets (pad_causes w l) (padded w l) (pad_decided w l h)
    (λ n. padded_is w l h (none_both (layout_causes w l) (rounding_passes w (padding_needs w l.align l.info) ∷ []) n).0)

-- rounding up adds nothing exactly where the number has no remainder
pub up_same : {a : ℕ} (s : ℕ) → PowerOfTwo a → eqb (s % a) 0 ≡ eqb (up s a) s
up_same {a} s q =
    agree (tells_as (λ e. up_whole s a (positive q) e) (λ e. ap (λ (x : ℕ). x % a) (sym e) ∙ up_multiple s a) (tells_eq (s % a) 0))
    (tells_eq (up s a) s)
