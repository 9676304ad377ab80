-- What the comparison and the form are by the parts a and q of a word, over any width w. Assumes nothing.
use mathlib.Core.Path.{◌≡◌, sym, ap, ◌∙◌}
use mathlib.Core.Bool.{false}
use Prim.Native.Nat.{ℕ, ◌+◌, ◌-◌, ◌%◌, ◌^◌, ◌≤◌, ◌<◌}
use lib.Dec.{eqb}
use native.Mathlib.Omega.{arith}
use borrow.Author.Tests.{eq-eqb, ne_eqb, lt-ltb, le-ltb}
use Rattle.util_defs.specs.Width.{M}
use Rattle.util_defs.specs.Round.{up}
use Rattle.util_defs.specs.Refusal.{answered, refused, unless, Tells}
use Rattle.util_defs.proofs.Refusals.{tells_eq, tells_as}
use Rattle.util_defs.proofs.Powers.{double}
use Rattle.rounding.specs.Word.{IsWord}
use Rattle.rounding.proofs.Words.{at_parts}
use Rattle.trailing_defs.specs.Size.{Trailing, A, p, size_at}
use Rattle.trailing_defs.specs.Sequence.{same_stride}
use Rattle.trailing_defs.proofs.Calls.{size_first}
use Rattle.full_defs.specs.Full.{lowest_bit, seen_phase, sizes_agree}
use Rattle.full_defs.specs.Form.{Form, form, form_of, form_for}

-- two sums compared by their differences, as unlimited whole numbers
pub differences : (b u c v : ℕ) → b ≤ c → v ≤ u → Tells (b + u ≡ c + v) (eqb (u - v) (c - b))
differences b u c v h l = tells_as (λ e. omega arith) (λ e. omega arith) (tells_eq (u - v) (c - b))

pub differences_back : (b u c v : ℕ) → c ≤ b → u ≤ v → Tells (b + u ≡ c + v) (eqb (v - u) (b - c))
differences_back b u c v h l = tells_as (λ e. omega arith) (λ e. omega arith) (tells_eq (v - u) (b - c))

module _ {a q : ℕ} (w : ℕ) (t : Trailing) (x : IsWord t.word a q) (h : t.word < 2 ^ w) where
  -- the three cases of the form
  pub form_whole : t.elem % a ≡ 0 → form_of w t ≡ form (size_at w t 0) 1 t.elem
  unfolding form_of
  form_whole d = simp (eq-eqb (t.elem % A w t) 0 (at_parts w (λ b r. t.elem % b) x h ∙ d))

  pub form_zero : (t.elem % a ≡ 0 → ⊥) → seen_phase w t.elem a q ≡ 0 → form_of w t ≡ form (size_at w t 0) a t.elem
  unfolding form_of
  form_zero d z =
      simp (
        ne_eqb (t.elem % A w t) 0 (λ e. d (sym (at_parts w (λ b r. t.elem % b) x h) ∙ e)),
        eq-eqb (seen_phase w t.elem (A w t) (p w t)) 0 (at_parts w (λ b r. seen_phase w t.elem b r) x h ∙ z),
      ) (at_parts w (λ b r. form (size_at w t 0) b t.elem) x h)

  pub form_least : (t.elem % a ≡ 0 → ⊥) → (seen_phase w t.elem a q ≡ 0 → ⊥)
      → form_of w t ≡ form t.base (a + (up q (lowest_bit w t.elem) - lowest_bit w t.elem + 1)) t.elem
  unfolding form_of
  form_least d z =
      simp (
        ne_eqb (t.elem % A w t) 0 (λ e. d (sym (at_parts w (λ b r. t.elem % b) x h) ∙ e)),
        ne_eqb (seen_phase w t.elem (A w t) (p w t)) 0 (λ e. z (sym (at_parts w (λ b r. seen_phase w t.elem b r) x h) ∙ e)),
      ) (at_parts w (λ b r. form t.base (b + (up r (lowest_bit w t.elem) - lowest_bit w t.elem + 1)) t.elem) x h)

-- a form whose base M does not pass is the answer, and 46 refuses any other
pub form_given : (w : ℕ) (t : Trailing) (f : Form) → 0 < t.word → form_of w t ≡ f → f.base ≤ M w → form_for w t ≡ answered f
unfolding form_for unless
form_given w t f n e l =
    simp (ne_eqb t.word 0 (λ z. omega arith), le-ltb (M w) (form_of w t).base (omega (arith, ap (λ (g : Form). g.base) e))) (ap answered e)

pub form_past : (w : ℕ) (t : Trailing) (f : Form) → 0 < t.word → form_of w t ≡ f → M w < f.base → form_for w t ≡ refused 46
unfolding form_for unless
form_past w t f n e l =
    simp (ne_eqb t.word 0 (λ z. omega arith), lt-ltb (M w) (form_of w t).base (omega (arith, ap (λ (g : Form). g.base) e)))

-- the comparison of layouts of one element size, by the parts of both words: other sizes at 0 are a no, and past them the steps tell
module _ {a q b r : ℕ} (w : ℕ) (s t : Trailing) (x : IsWord s.word a q) (y : IsWord t.word b r) (hs : s.word < 2 ^ w) (ht : t.word < 2 ^ w) (e : s.elem ≡ t.elem) where
  pub agree_apart : (s.base + up q a ≡ t.base + up r b → ⊥) → false ≡ sizes_agree w s t
  unfolding sizes_agree
  agree_apart n =
      simp (
        eq-eqb s.elem t.elem e,
        ne_eqb (size_at w s 0) (size_at w t 0) (λ z. n (sym (size_first w s x hs) ∙ z ∙ size_first w t y ht)),
      )

  pub agree_steps : s.base + up q a ≡ t.base + up r b → same_stride s.elem a (seen_phase w s.elem a q) b (seen_phase w s.elem b r) ≡ sizes_agree w s t
  unfolding sizes_agree
  agree_steps z =
      sym (at_parts w (λ c v. same_stride s.elem c (seen_phase w s.elem c v) b (seen_phase w s.elem b r)) x hs)
      ∙ sym (at_parts w (λ c v. same_stride s.elem (A w s) (seen_phase w s.elem (A w s) (p w s)) c (seen_phase w s.elem c v)) y ht)
      ∙ simp (
        eq-eqb s.elem t.elem e,
        eq-eqb (size_at w s 0) (size_at w t 0) (size_first w s x hs ∙ z ∙ sym (size_first w t y ht)),
      )

-- a word is as wide as its alignment
pub word_fits : {n a q : ℕ} (w : ℕ) → IsWord n a q → a < 2 ^ w → n < 2 ^ w
word_fits w x h = omega (arith, double w x.power h, x.sum, x.below)
