-- The normal form: the one computed has the least A, then the least phase, there is no other, and equal forms are equal sizes.
-- Assumes nothing.
use mathlib.Core.Path.{◌≡◌, refl, sym, ap, ap₂, ◌∙◌, subst}
use mathlib.Core.Bool.{Bool, true, false, cond}
use mathlib.Core.Logic.{◌⊎◌, inl, inr, ⊎_elim}
use Prim.Native.Nat.{ℕ, ◌+◌, ◌-◌, ◌*◌, ◌%◌, ◌^◌, ◌≤◌, ◌<◌}
use lib.Dec.{eqb, ltb}
use native.Mathlib.Nat.{le_antisymm, mod_self, mod-eq_of_lt, eq-or-lt_of_le}
use native.Mathlib.Omega.{arith}
use Rattle.util_defs.specs.Width.{M}
use Rattle.util_defs.specs.Round.{up}
use Rattle.util_defs.specs.Refusal.{answered, Tells, holds, fails, None, Meets, answers}
use Rattle.util_defs.proofs.Refusals.{tells_eq, tells_lt, tells_as, meets, answered_means, one_outcome}
use Rattle.util_defs.proofs.Powers.{positive, double}
use Rattle.util_defs.proofs.Rounding.{up_multiple, up_near, up_is, up_least, up_whole}
use Rattle.rounding.proofs.Words.{parts_of_lem, same_align, same_phase, not_zero, at_parts}
use Rattle.trailing_defs.specs.Size.{Trailing, A, p, size_with, size_at, HasSize}
use Rattle.trailing_defs.specs.Sequence.{EqualSizes}
use Rattle.trailing_defs.proofs.Sizes.{rounded_zero}
use Rattle.trailing_defs.proofs.Sequences.{whole_blocks}
use Rattle.full_defs.specs.Full.{lowest_bit, seen_phase}
use Rattle.full_defs.specs.Form.{Form, Parts, size_of, SoundParts, Choice, NoLater, IsNormal, form, form_of, PastM, form_causes, form_for}
use Rattle.full_defs.specs.Laws.{FormsAgree, layout_in, MadeTwice}
use Rattle.full_defs.proofs.Lowest.{LowestBit, low_divides, low_under}
use Rattle.full_defs.proofs.Masks.{unit_le}
use Rattle.full_defs.proofs.Floors.{up_unit, whole_times, same_elem}
use Rattle.full_defs.proofs.Full.{Alike, sees, sizes_alike, parts_of, sound_parts, lowest_of}

-- a rounded phase is at most A, and below it where the remainder is not 0
rounded_lt : {p g A : ℕ} → 0 < g → p < A → A % g ≡ 0 → (up p g % A ≡ 0 → ⊥) → up p g < A
rounded_lt {p} {g} {A} pos h d z = go (eq-or-lt_of_le (up_least p g A pos d (omega arith)))
  where
    go : (up p g ≡ A) ⊎ (up p g < A) → up p g < A
    go (inl e) = absurd (z (ap (λ (x : ℕ). x % A) e ∙ mod_self A))
    go (inr l) = l

-- parts whose base is k higher, which lets a base be below 0
raised : ℕ → Parts → Parts
raised k s = record { base = k + s.base; align = s.align; phase = s.phase; elem = s.elem }

raised_size : (k : ℕ) (s : Parts) (n : ℕ) → size_of (raised k s) n ≡ k + size_of s n
unfolding size_with raised
raised_size k s n = omega arith

module _ (w : ℕ) (t : Trailing) (pt : 0 < t.word) (ht : t.word < 2 ^ w) where
  own : Parts
  own = parts_of w t

  sound : SoundParts (parts_of w t)
  sound = sound_parts w t pt ht

  -- what any choice says of its parts, where A does not divide e
  others : (less : ℕ) (c : Parts) → (t.elem % A w t ≡ 0 → ⊥) → Choice w t less c
      → (A w t ≡ c.align) × (seen_phase w t.elem (A w t) (p w t) ≡ up c.phase (lowest_bit w t.elem) % c.align)
  unfolding raised
  others less c d x =
      go (sizes_alike (lowest_bit w t.elem) (raised less (parts_of w t)) c (record { power = sound.power; below = sound.below }) x.sound (λ _. low) (λ _. low)
      (λ n. raised_size less (parts_of w t) n ∙ sym (x.sizes n)))
    where
      low : LowestBit t.elem (lowest_bit w t.elem)
      low = lowest_of w t t.elem pt ht d

      go : Alike (lowest_bit w t.elem) (raised less (parts_of w t)) c → (A w t ≡ c.align) × (seen_phase w t.elem (A w t) (p w t) ≡ up c.phase (lowest_bit w t.elem) % c.align)
      go (inl r) = absurd (d r.0)
      go (inr r) = r.1

  -- A divides e: A 1 and phase 0, of the size at 0
  whole_normal : t.elem % A w t ≡ 0 → IsNormal w t (form (size_at w t 0) 1 t.elem)
  unfolding size_with
  whole_normal d = record {
    parts = record { base = size_at w t 0; align = 1; phase = 0; elem = t.elem };
    base = refl;
    word = record { power = record { exponent = 0; power = refl }; below = omega arith; sum = refl };
    elem = refl;
    choice = record {
      sound = record { power = record { exponent = 0; power = refl }; below = omega arith };
      elem = refl;
      sizes = λ n.
          let u : up (0 + n * t.elem) 1 ≡ 0 + n * t.elem = up_whole (0 + n * t.elem) 1 (omega arith) (omega arith) in
          omega (arith, whole_blocks t.base (A w t) (p w t) t.elem n (positive sound.power) d);
    };
    least = λ less c x. go c (eq-or-lt_of_le (positive x.sound.power));
  }
    where
      go : (c : Parts) → (1 ≡ c.align) ⊎ (1 < c.align) → (1 < c.align) ⊎ ((1 ≡ c.align) × (0 ≤ c.phase))
      go c (inl e) = inr (e, omega arith)
      go c (inr l) = inl l

  -- it does not, and the phase is seen as 0
  zero_normal : (t.elem % A w t ≡ 0 → ⊥) → seen_phase w t.elem (A w t) (p w t) ≡ 0 → IsNormal w t (form (size_at w t 0) (A w t) t.elem)
  unfolding size_with
  zero_normal d z = record {
    parts = record { base = size_at w t 0; align = A w t; phase = 0; elem = t.elem };
    base = refl;
    word = record { power = sound.power; below = positive sound.power; sum = omega arith };
    elem = refl;
    choice = record {
      sound = record { power = sound.power; below = positive sound.power };
      elem = refl;
      sizes = λ n.
          let l = lowest_of w t t.elem pt ht d in
          let g = lowest_bit w t.elem in
          let at : (m : ℕ) → up (up (p w t) g % A w t + m * t.elem) (A w t) ≡ up (0 + m * t.elem) (A w t) = λ m. ap (λ (a : ℕ). up (a + m * t.elem) (A w t)) z in
          let o : up (0 + 0 * t.elem) (A w t) ≡ 0 = ap (λ (a : ℕ). up a (A w t)) {x = 0 + 0 * t.elem} {y = 0} (omega arith) ∙ rounded_zero (A w t) (positive sound.power) in
          omega (arith, at 0, at n, sees (parts_of w t) g n sound l d, sees (parts_of w t) g 0 sound l d);
    };
    least = λ less c x. inr ((others less c d x).0, omega arith);
  }

  -- it is seen as another: the least that is seen alike
  least_normal : (t.elem % A w t ≡ 0 → ⊥) → (seen_phase w t.elem (A w t) (p w t) ≡ 0 → ⊥)
      → IsNormal w t (form t.base (A w t + (up (p w t) (lowest_bit w t.elem) - lowest_bit w t.elem + 1)) t.elem)
  unfolding size_with
  least_normal d z = record {
    parts = record { base = t.base; align = A w t; phase = P - g + 1; elem = t.elem };
    base = refl;
    word = record { power = sound.power; below = omega (arith, under, g_pos, g_le); sum = refl };
    elem = refl;
    choice = record {
      sound = record { power = sound.power; below = omega (arith, under, g_pos, g_le) };
      elem = refl;
      sizes = λ n.
          let m : n * t.elem % g ≡ 0 = whole_times n t.elem g (low_divides l) in
          let u : up (P - g + 1 + n * t.elem) (A w t) ≡ up (p w t + n * t.elem) (A w t) =
          sym (up_unit (P - g + 1) (n * t.elem) g (A w t) g_pos (positive sound.power) divides m)
          ∙ ap (λ (a : ℕ). up (a + n * t.elem) (A w t)) again
          ∙ up_unit (p w t) (n * t.elem) g (A w t) g_pos (positive sound.power) divides m in
          omega arith;
    };
    least = λ less c x.
        let r = others less c d x in
        let Q = up c.phase g in
        let eq : P % A w t ≡ Q % A w t = r.1 ∙ ap (λ (a : ℕ). Q % a) (sym r.0) in
        let q-lt : Q < A w t = rounded_lt g_pos (subst (λ (a : ℕ). c.phase < a) (sym r.0) x.sound.below) divides (λ b. z (eq ∙ b)) in
        let pq : P ≡ Q = sym (mod-eq_of_lt under) ∙ eq ∙ mod-eq_of_lt q-lt in
        inr (r.0, omega (arith, up_near c.phase g g_pos, g_le, g_pos));
  }
    where
      g : ℕ
      g = lowest_bit w t.elem

      P : ℕ
      P = up (p w t) g

      l : LowestBit t.elem g
      l = lowest_of w t t.elem pt ht d

      g_pos : 0 < g
      g_pos = positive l.power

      divides : A w t % g ≡ 0
      divides = low_under l sound.power d

      under : P < A w t
      under = rounded_lt g_pos sound.below divides z

      g_le : g ≤ P
      g_le = unit_le g (A w t) (p w t) z

      again : up (P - g + 1) g ≡ P
      again = sym (up_is (P - g + 1) g P g_pos (up_multiple (p w t) g) (omega (arith, g_le, g_pos)) (omega (arith, g_le, g_pos)))

  -- what is computed is the normal form
  pub is_normal_lem : IsNormal w t (form_of w t)
  unfolding form_of
  is_normal_lem = go (tells_eq (t.elem % A w t) 0) (tells_eq (seen_phase w t.elem (A w t) (p w t)) 0)
    where
      go : {a b : Bool} → Tells (t.elem % A w t ≡ 0) a → Tells (seen_phase w t.elem (A w t) (p w t) ≡ 0) b
          → IsNormal w t (
          cond a (form (size_at w t 0) 1 t.elem)
          (cond b (form (size_at w t 0) (A w t) t.elem)
          (form t.base (A w t + (up (p w t) (lowest_bit w t.elem) - lowest_bit w t.elem + 1)) t.elem))
          )
      go (holds d) _ = whole_normal d
      go (fails d) (holds z) = zero_normal d z
      go (fails d) (fails z) = least_normal d z

-- of two that are each no later than the other, A and phase are the same
both_least : (c d : Parts) → NoLater c d → NoLater d c → (c.align ≡ d.align) × (c.phase ≡ d.phase)
both_least c d (inl h) (inl g) = absurd (omega arith)
both_least c d (inl h) (inr g) = absurd (omega (arith, g.0))
both_least c d (inr h) (inl g) = absurd (omega (arith, h.0))
both_least c d (inr h) (inr g) = (h.0, le_antisymm h.1 g.1)

-- a layout has one normal form
pub one_form : {w : ℕ} {t : Trailing} (f g : Form) → IsNormal w t f → IsNormal w t g → f ≡ g
unfolding size_with
one_form {w} {t} f g x y =
    let r = both_least x.parts y.parts (x.least 0 y.parts y.choice) (y.least 0 x.parts x.choice) in
    let e : x.parts.elem ≡ y.parts.elem = x.choice.elem ∙ sym y.choice.elem in
    let u : up (x.parts.phase + 0 * x.parts.elem) x.parts.align ≡ up (y.parts.phase + 0 * y.parts.elem) y.parts.align = ap₂ up (ap₂ (λ (a b : ℕ). a + 0 * b) r.1 e) r.0 in
    let b : x.parts.base ≡ y.parts.base = omega (arith, x.choice.sizes 0, y.choice.sizes 0) in
    let s : f.word ≡ g.word = x.word.sum ∙ ap₂ (λ (a q : ℕ). a + q) r.0 r.1 ∙ sym y.word.sum in
    λ i. record { base = (x.base ∙ b ∙ sym y.base) i; word = s i; elem = (x.elem ∙ e ∙ sym y.elem) i }

-- equal sizes have the same normal form, and one form is of equal sizes
pub form_carried : {w : ℕ} {s t : Trailing} {f : Form} → s.elem ≡ t.elem → EqualSizes w s t → IsNormal w s f → IsNormal w t f
form_carried {w} {s} {t} e h x = record {
  parts = x.parts;
  base = x.base;
  word = x.word;
  elem = x.elem;
  choice = record { sound = x.choice.sound; elem = x.choice.elem ∙ e; sizes = λ n. x.choice.sizes n ∙ ap (λ (a : ℕ). 0 + a) (h n) };
  least = λ less c y.
      x.least less c (record { sound = y.sound; elem = y.elem ∙ sym e; sizes = λ n. y.sizes n ∙ ap (λ (a : ℕ). less + a) (sym (h n)) });
}

pub form_sizes : {w : ℕ} {s t : Trailing} {f : Form} → IsNormal w s f → IsNormal w t f → EqualSizes w s t
form_sizes {w} {s} {t} x y n =
    let c : size_of x.parts n ≡ size_of y.parts n =
    λ i. size_with ((sym x.base ∙ y.base) i) (same_align x.word y.word i) (same_phase x.word y.word i) (n * (sym x.elem ∙ y.elem) i) in
    omega (arith, x.choice.sizes n, y.choice.sizes n)

-- its word is no wider than the layout's
pub form_word_lt : {w : ℕ} {t : Trailing} {f : Form} → 0 < t.word → t.word < 2 ^ w → IsNormal w t f → f.word < 2 ^ w
form_word_lt {w} {t} {f} pt ht x = go (x.least 0 (parts_of w t) (record { sound = sound_parts w t pt ht; elem = refl; sizes = λ n. omega arith }))
  where
    a : A w t + A w t ≤ 2 ^ w
    a = let y = parts_of_lem w t.word pt ht in double w y.power (omega (arith, y.sum))

    go : NoLater x.parts (parts_of w t) → f.word < 2 ^ w
    go (inl l) = omega (arith, a, x.word.sum, x.word.below)
    go (inr e) = omega (arith, a, e.0, x.word.sum, x.word.below)

-- 46 is decided by the form that is computed
pub form_meets : (w : ℕ) (t : Trailing) → t.word < 2 ^ w → Meets (form_causes w t) (IsNormal w t) (form_for w t)
unfolding form_for
form_meets w t ht =
    meets (form_causes w t) (form_of w t) (tells_eq t.word 0, λ n. (past (omega (arith, n)), λ _. tt))
    (λ n. is_normal_lem w t (omega (arith, n.0)) ht)
  where
    past : 0 < t.word → Tells (PastM w t) (ltb (M w) (form_of w t).base)
    past pt =
        tells_as (λ l. record { normal = form_of w t; is_normal = is_normal_lem w t pt ht; past = l })
        (λ x. subst (λ (f : Form). M w < f.base) (one_form x.normal (form_of w t) x.is_normal (is_normal_lem w t pt ht)) x.past)
        (tells_lt (M w) (form_of w t).base)

-- the base of a form is the layout's or the size at 0, so that a layout that has a size at 0 has a form
form_base : (w : ℕ) (t : Trailing) → ((form_of w t).base ≡ size_at w t 0) ⊎ ((form_of w t).base ≡ t.base)
unfolding form_of
form_base w t = go (eqb (t.elem % A w t) 0) (eqb (seen_phase w t.elem (A w t) (p w t)) 0)
  where
    go : (a b : Bool)
        → let f : Form =
        cond a (form (size_at w t 0) 1 t.elem)
        (cond b (form (size_at w t 0) (A w t) t.elem)
        (form t.base (A w t + (up (p w t) (lowest_bit w t.elem) - lowest_bit w t.elem + 1)) t.elem)) in
        (f.base ≡ size_at w t 0) ⊎ (f.base ≡ t.base)
    go true b = inl refl
    go false true = inl refl
    go false false = inr refl

pub sized_has_form : (w : ℕ) (t : Trailing) → 0 < t.word → t.word < 2 ^ w → t.base ≤ M w → HasSize w t 0 → PastM w t → ⊥
sized_has_form w t pt ht hb h x =
    let e = ap (λ (f : Form). f.base) (one_form x.normal (form_of w t) x.is_normal (is_normal_lem w t pt ht)) in
    ⊎_elim (λ i. omega (arith, e, x.past)) (λ i. omega (arith, e, x.past)) (form_base w t)

-- what is answered is the normal form, no cause of refusal holding
form_told : {w : ℕ} {t : Trailing} {f : Form} → t.word < 2 ^ w → form_for w t ≡ answered f → None (form_causes w t) × IsNormal w t f
form_told {w} {t} ht e = answered_means (subst (Meets (form_causes w t) (IsNormal w t)) e (form_meets w t ht))

-- request 9: two layouts that have forms have equal ones exactly when their sizes agree at every count
pub forms_agree : (w : ℕ) → FormsAgree w
forms_agree w s t f g hs ht ef eg =
    let x = form_told hs ef in
    let y = form_told ht eg in
    record {
      there = λ e. form_sizes x.1 (subst (IsNormal w t) (sym e) y.1);
      back = λ h.
          let ps : 0 < s.word = omega (arith, x.0.0) in
          let pt : 0 < t.word = omega (arith, y.0.0) in
          one_form f g (form_carried (same_elem (parts_of w s) (parts_of w t) (sound_parts w s ps hs) (sound_parts w t pt ht) h) h x.1) y.1;
    }

-- request 9: making it twice changes nothing
pub made_twice : (w : ℕ) → MadeTwice w
made_twice w t f o ht e =
    let x = form_told ht e in
    let pt : 0 < t.word = omega (arith, x.0.0) in
    let hf = form_word_lt pt ht x.1 in
    let h : EqualSizes w t (layout_in o f) = λ n.
    let c : size_of x.1.parts n ≡ size_at w (layout_in o f) n =
    ap₂ (λ (b e : ℕ). size_with b x.1.parts.align x.1.parts.phase (n * e)) (sym x.1.base) (sym x.1.elem)
    ∙ sym (at_parts w (λ a q. size_with f.base a q (n * f.elem)) x.1.word hf) in
    omega (arith, x.1.choice.sizes n) in
    let y : IsNormal w (layout_in o f) f = form_carried (sym (x.1.elem ∙ x.1.choice.elem)) h x.1 in
    one_outcome (form_causes w (layout_in o f)) (IsNormal w (layout_in o f)) one_form (form_meets w (layout_in o f) hf)
    (answers (
      (λ z. omega (arith, not_zero x.1.word)),
      (
        (λ q. x.0.1.0 (record {
          normal = f;
          is_normal = x.1;
          past = subst (λ (g : Form). M w < g.base) (one_form q.normal f q.is_normal y) q.past;
        })),
        tt,
      ),
    ) y)
