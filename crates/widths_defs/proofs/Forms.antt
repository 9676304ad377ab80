-- The full comparison and normal forms at v bits, by w. Assumes nothing.
use mathlib.Core.Path.{◌≡◌, refl, sym, ap, ◌∙◌, subst}
use mathlib.Core.Bool.{cond}
use mathlib.Core.List.{[], ◌∷◌}
use Prim.Native.Nat.{ℕ, ◌+◌, ◌^◌, ◌≤◌, ◌<◌}
use native.Mathlib.Nat.{mod-eq_of_lt}
use native.Mathlib.Omega.{arith}
use lib.Pow.{pow_pos, pow_mono}
use lib.Dec.{leb, ltb}
use borrow.Author.Tests.{lt-leb, le-leb}
use Rattle.util_defs.specs.Width.{M}
use Rattle.util_defs.specs.Refusal.{Outcome, answered, refused, unless, Meets}
use Rattle.util_defs.proofs.Refusals.{agree, answered_means, tells_eq, tells_lt, tells_as}
use Rattle.rounding.specs.Word.{word_zero}
use Rattle.trailing_defs.specs.Size.{Trailing}
use Rattle.trailing_defs.specs.Calls.{same_causes}
use Rattle.full_defs.specs.Full.{sizes_agree, agree_for}
use Rattle.full_defs.specs.Form.{Form, IsNormal, form_of, base_passes, form_causes, form_for}
use Rattle.full_defs.proofs.Full.{tells_sizes}
use Rattle.full_defs.proofs.Forms.{is_normal_lem, one_form, form_word_lt, form_meets}
use Rattle.widths_defs.specs.Low.{mapped, low_form, TailIn}
use Rattle.widths_defs.specs.Within.{form_within}
use Rattle.widths_defs.proofs.Widths.{held, mapped_same, tables, limit}
use Rattle.widths_defs.proofs.Sizes.{same_at}

-- `sizes_agree`: the same, since the sizes are
pub same_agree : (v w : ℕ) (s t : Trailing) → v ≤ w → 0 < s.word → s.word < 2 ^ v → 0 < t.word → t.word < 2 ^ v → sizes_agree v s t ≡ sizes_agree w s t
same_agree v w s t l ps hs pt ht =
    agree (tells_sizes v s t ps hs pt ht)
    (tells_as (λ e n. same_at v w s n l hs ∙ e n ∙ sym (same_at v w t n l ht)) (λ e n. sym (same_at v w s n l hs) ∙ e n ∙ same_at v w t n l ht)
    (tells_sizes w s t ps (held v w l hs) pt (held v w l ht)))

pub agree_same : (v w : ℕ) (s t : Trailing) → v ≤ w → s.word < 2 ^ v → t.word < 2 ^ v → agree_for v s t ≡ agree_for w s t
unfolding agree_for unless
agree_same v w s t l hs ht =
    tables (λ o. o) (λ k. refl) (same_causes s t) (same_causes s t) [] [] (sizes_agree v s t) (sizes_agree w s t)
    ((refl, refl), ((refl, refl), tt)) (tells_eq s.word 0, λ _. (tells_eq t.word 0, λ _. tt))
    (λ n. ap answered (same_agree v w s t l (omega (arith, n.0)) hs (omega (arith, n.1.0)) ht))

-- the normal form is one of the sizes alone
normal_same : {f : Form} (v w : ℕ) (t : Trailing) → v ≤ w → t.word < 2 ^ v → IsNormal v t f → IsNormal w t f
normal_same v w t l h x = record {
  parts = x.parts;
  base = x.base;
  word = x.word;
  elem = x.elem;
  choice = record { sound = x.choice.sound; elem = x.choice.elem; sizes = λ n. x.choice.sizes n ∙ ap (λ (a : ℕ). 0 + a) (same_at v w t n l h) };
  least = λ less c y.
      x.least less c (record { sound = y.sound; elem = y.elem; sizes = λ n. y.sizes n ∙ ap (λ (a : ℕ). less + a) (sym (same_at v w t n l h)) });
}

pub same_form : (v w : ℕ) (t : Trailing) → v ≤ w → 0 < t.word → t.word < 2 ^ v → form_of v t ≡ form_of w t
same_form v w t l pos h = one_form {w = w} {t = t} (form_of v t) (form_of w t) (normal_same v w t l h (is_normal_lem v t pos h)) (is_normal_lem w t pos (held v w l h))

-- `normal_form`: 46 where the base passes M at v
pub form_narrows : (v w : ℕ) (t : Trailing) → v ≤ w → t.word < 2 ^ v → form_for v t ≡ form_within (M v) (form_for w t)
unfolding form_for unless
form_narrows v w t l h =
    tables (form_within (M v)) (λ k. refl) (word_zero t.word ∷ []) (word_zero t.word ∷ []) (base_passes v t ∷ []) (base_passes w t ∷ []) (form_of v t) (form_of w t)
    ((refl, refl), tt) (tells_eq t.word 0, λ _. tt)
    (λ n.
    let m : 2 ^ v ≤ 2 ^ w = pow_mono l in
    let f = form_of w t in
    ap (λ (z : Form). cond (ltb (M v) z.base) (refused 46) (answered z)) (same_form v w t l (omega (arith, n.0)) h)
    ∙ limit 46 f (λ z. leb z.base (M v)) (tells_lt (M v) f.base) (tells_lt (M w) f.base) (λ q. omega (arith, q))
    (λ x. lt-leb f.base (M v) x) (λ x. le-leb f.base (M v) (omega (arith, x))))

form_in : (v : ℕ) (t : Trailing) (f : Form) → TailIn v t → form_for v t ≡ answered f → low_form v f ≡ f
form_in v t f h e =
    let q = answered_means (subst (λ (o : Outcome Form). Meets (form_causes v t) (IsNormal v t) o) e (form_meets v t h.word)) in
    let n : M v < f.base → ⊥ = λ g. q.0.1.0 (record { normal = f; is_normal = q.1; past = g }) in
    let b : f.base < 2 ^ v = omega (arith, n, pow_pos v) in
    let c : f.elem < 2 ^ v = omega (arith, q.1.elem, q.1.choice.elem, h.elem) in
    let pos : 0 < t.word = omega (arith, q.0.0) in
    simp (mod-eq_of_lt b, mod-eq_of_lt (form_word_lt pos h.word q.1), mod-eq_of_lt c)

pub form_low : (v w : ℕ) (t : Trailing) → v ≤ w → TailIn v t → form_for v t ≡ mapped (low_form v) (form_within (M v) (form_for w t))
form_low v w t l h = mapped_same (low_form v) (form_for v t) (λ f e. form_in v t f h e) ∙ ap (mapped (low_form v)) (form_narrows v w t l h.word)
