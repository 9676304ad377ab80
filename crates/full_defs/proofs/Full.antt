-- The full comparison says yes exactly when the sizes are equal at every count. Assumes nothing.
use mathlib.Core.Path.{◌≡◌, refl, sym, ap, ap₂, ◌∙◌, subst}
use mathlib.Core.Bool.{Bool, true, false}
use mathlib.Core.Logic.{◌⊎◌, inl, inr}
use Prim.Native.Nat.{ℕ, ◌+◌, ◌*◌, ◌%◌, ◌^◌, ◌<◌}
use native.Mathlib.Nat.{le_antisymm}
use native.Mathlib.Omega.{arith}
use borrow.Author.Tests.{ne_eqb}
use Rattle.util_defs.specs.Round.{up, down}
use Rattle.util_defs.specs.Refusal.{answered, unless, Tells, holds, fails, Meets}
use Rattle.util_defs.proofs.Refusals.{yes, told_true, tells_eq, tells_and, tells_as, meets}
use Rattle.util_defs.proofs.Powers.{positive}
use Rattle.util_defs.proofs.Rounding.{up_shift, down_mod, down_multiple}
use Rattle.rounding.proofs.Words.{parts_of_lem}
use Rattle.trailing_defs.specs.Size.{Trailing, A, p, size_at}
use Rattle.trailing_defs.specs.Sequence.{EqualSizes, SameStride}
use Rattle.trailing_defs.specs.Calls.{same_causes}
use Rattle.trailing_defs.proofs.Sequences.{whole_blocks, tells_stride}
use Rattle.full_defs.specs.Full.{lowest_bit, seen_phase, sizes_agree, agree_for, FoundEqual}
use Rattle.full_defs.specs.Form.{Parts, size_of, SoundParts}
use Rattle.full_defs.proofs.Lowest.{LowestBit, max_divides, divides_max, lowest_under}
use Rattle.full_defs.proofs.Floors.{Floor, floor_whole, floor_low, meet, power_le, same_elem}

-- how the parts of two sequences of one element size stand where the sizes are equal: both A divide e; or neither does, they are one,
-- and the phases, rounded up to the lowest one bit g of e, leave the same remainder
abbrev pub Alike : ℕ → Parts → Parts → Type 0
Alike g s t =
    ((s.elem % s.align ≡ 0) × (s.elem % t.align ≡ 0))
    ⊎ ((s.elem % s.align ≡ 0 → ⊥) × ((s.align ≡ t.align) × (up s.phase g % s.align ≡ up t.phase g % t.align)))

-- of what is rounded, whole multiples can be taken out
up_split : (v t A : ℕ) → 0 < A → up (v + t) A ≡ down v A + up (v % A + t) A
up_split v t A h =
    ap (λ (z : ℕ). up z A) {x = v + t} {y = down v A + (v % A + t)} (omega (arith, down_mod v A))
    ∙ up_shift (v % A + t) A (down v A) h (down_multiple v A)

-- where A does not divide e, the sizes see the phase only by that remainder
pub sees : (s : Parts) (g n : ℕ) → SoundParts s → LowestBit s.elem g → (s.elem % s.align ≡ 0 → ⊥)
    → size_of s n ≡ s.base + down (up s.phase g) s.align + up (up s.phase g % s.align + n * s.elem) s.align
sees s g n h l d = omega (arith, (floor_low s g h l d).sizes n, up_split (up s.phase g) (n * s.elem) s.align (positive h.power))

module _ (g : ℕ) (s t : Parts) (x : SoundParts s) (y : SoundParts t) (ls : (s.elem % s.align ≡ 0 → ⊥) → LowestBit s.elem g) where
  -- so they are equal at every count where they are at 0
  pub alike_sizes : s.elem ≡ t.elem → size_of s 0 ≡ size_of t 0 → Alike g s t → (n : ℕ) → size_of s n ≡ size_of t n
  alike_sizes e z (inl d) n =
      let ne : n * s.elem ≡ n * t.elem = ap (λ (a : ℕ). n * a) e in
      omega (
        arith,
        whole_blocks s.base s.align s.phase s.elem n (positive x.power) d.0,
        whole_blocks t.base t.align t.phase t.elem n (positive y.power) (subst (λ (a : ℕ). a % t.align ≡ 0) e d.1),
      )
  alike_sizes e z (inr d) n =
      let l = ls d.0 in
      let dt : t.elem % t.align ≡ 0 → ⊥ = λ q. d.0 (ap₂ (λ (a b : ℕ). a % b) e d.1.0 ∙ q) in
      let lt = subst (λ (a : ℕ). LowestBit a g) e l in
      let at : (m : ℕ) → up (up s.phase g % s.align + m * s.elem) s.align ≡ up (up t.phase g % t.align + m * t.elem) t.align =
      λ m. ap₂ up (ap₂ (λ (a b : ℕ). a + m * b) d.1.1 e) d.1.0 in
      omega (arith, at 0, at n, sees s g 0 x l d.0, sees t g 0 y lt dt, sees s g n x l d.0, sees t g n y lt dt)

  -- and nowhere else
  pub sizes_alike : ((s.elem % t.align ≡ 0 → ⊥) → LowestBit s.elem g) → ((n : ℕ) → size_of s n ≡ size_of t n) → Alike g s t
  sizes_alike lt h = go (tells_eq (s.elem % s.align) 0) (tells_eq (s.elem % t.align) 0)
    where
      e : s.elem ≡ t.elem
      e = same_elem s t x y h

      one : (B : ℕ) → s.elem % B ≡ 0 → 1 * s.elem % B ≡ 0
      one B d = ap (λ (z : ℕ). z % B) {x = 1 * s.elem} {y = s.elem} (omega arith) ∙ d

      enough : (B : ℕ) → 1 * s.elem % B ≡ 0 → s.elem % B ≡ 0
      enough B d = ap (λ (z : ℕ). z % B) {x = s.elem} {y = 1 * s.elem} (omega arith) ∙ d

      whole_t : s.elem % t.align ≡ 0 → Floor (size_of t) t.base t.align (up t.phase t.align) s.elem
      whole_t d =
          subst (λ (z : ℕ). Floor (size_of t) t.base t.align (up t.phase t.align) z) (sym e) (floor_whole t y (subst (λ (z : ℕ). z % t.align ≡ 0) e d))

      low_t : (s.elem % t.align ≡ 0 → ⊥) → Floor (size_of t) t.base t.align (up t.phase g) s.elem
      low_t n =
          subst (λ (z : ℕ). Floor (size_of t) t.base t.align (up t.phase g) z) (sym e)
          (floor_low t g y (subst (λ (z : ℕ). LowestBit z g) e (lt n)) (subst (λ (z : ℕ). z % t.align ≡ 0 → ⊥) e n))

      go : {b c : Bool} → Tells (s.elem % s.align ≡ 0) b → Tells (s.elem % t.align ≡ 0) c → Alike g s t
      go (holds d) (holds f) = inl (d, f)
      go (holds d) (fails n) = inl (d, enough t.align ((meet (floor_whole s x d) (low_t n) h).there 1 (one s.align d)))
      go (fails n) (holds d) = absurd (n (enough s.align ((meet (floor_low s g x (ls n) n) (whole_t d) h).here 1 (one t.align d))))
      go (fails n) (fails m) =
          let r = meet (floor_low s g x (ls n) n) (low_t m) h in
          let a : s.align ≡ t.align = le_antisymm (power_le y.power x.power (ls n) m r.here) (power_le x.power y.power (ls n) n r.there) in
          inr (n, (a, r.rests a))

-- the parts of a layout
abbrev pub parts_of : ℕ → Trailing → Parts
parts_of w t = record { base = t.base; align = A w t; phase = p w t; elem = t.elem }

pub sound_parts : (w : ℕ) (t : Trailing) → 0 < t.word → t.word < 2 ^ w → SoundParts (parts_of w t)
sound_parts w t n h = let x = parts_of_lem w t.word n h in record { power = x.power; below = x.below }

pub align_lt : (w : ℕ) (t : Trailing) → 0 < t.word → t.word < 2 ^ w → A w t < 2 ^ w
align_lt w t n h = omega (arith, (parts_of_lem w t.word n h).sum)

pub lowest_of : (w : ℕ) (t : Trailing) (e : ℕ) → 0 < t.word → t.word < 2 ^ w → (e % A w t ≡ 0 → ⊥) → LowestBit e (lowest_bit w e)
lowest_of w t e n h = lowest_under w e (parts_of_lem w t.word n h).power (align_lt w t n h)

-- the tests decide the condition of the comparison
pub tells_agree : (w : ℕ) (s t : Trailing)
    → Tells ((s.elem ≡ t.elem) × ((size_at w s 0 ≡ size_at w t 0)
    × SameStride s.elem (A w s) (seen_phase w s.elem (A w s) (p w s)) (A w t) (seen_phase w s.elem (A w t) (p w t)))) (sizes_agree w s t)
unfolding sizes_agree
tells_agree w s t =
    tells_and (tells_eq s.elem t.elem) (tells_and (tells_eq (size_at w s 0) (size_at w t 0))
    (tells_stride s.elem (A w s) (seen_phase w s.elem (A w s) (p w s)) (A w t) (seen_phase w s.elem (A w t) (p w t))))

-- which is how the parts stand where the sizes are equal
module _ (w : ℕ) (s t : Trailing) (ps : 0 < s.word) (hs : s.word < 2 ^ w) (pt : 0 < t.word) (ht : t.word < 2 ^ w) where
  abbrev Strides : Type 0
  Strides = SameStride s.elem (A w s) (seen_phase w s.elem (A w s) (p w s)) (A w t) (seen_phase w s.elem (A w t) (p w t))

  strides_alike : Strides → Alike (lowest_bit w s.elem) (parts_of w s) (parts_of w t)
  strides_alike (inl d) = inl (max_divides s.elem (parts_of_lem w s.word ps hs).power (parts_of_lem w t.word pt ht).power d)
  strides_alike (inr k) = go (tells_eq (s.elem % A w s) 0)
    where
      go : {b : Bool} → Tells (s.elem % A w s ≡ 0) b → Alike (lowest_bit w s.elem) (parts_of w s) (parts_of w t)
      go (holds d) = inl (d, subst (λ (z : ℕ). s.elem % z ≡ 0) k.0 d)
      go (fails n) = inr (n, k)

  alike_strides : Alike (lowest_bit w s.elem) (parts_of w s) (parts_of w t) → Strides
  alike_strides (inl d) = inl (divides_max (A w s) (A w t) s.elem d.0 d.1)
  alike_strides (inr k) = inr k.1

  -- request 9: yes exactly when the sizes are equal at every count
  pub tells_sizes : Tells (EqualSizes w s t) (sizes_agree w s t)
  tells_sizes =
      let x = sound_parts w s ps hs in
      let y = sound_parts w t pt ht in
      let g = lowest_bit w s.elem in
      let ls = lowest_of w s s.elem ps hs in
      tells_as (λ c. alike_sizes g (parts_of w s) (parts_of w t) x y ls c.0 c.1.0 (strides_alike c.1.1)) (λ h. (
        same_elem (parts_of w s) (parts_of w t) x y h,
        (h 0, alike_strides (sizes_alike g (parts_of w s) (parts_of w t) x y ls (lowest_of w t s.elem pt ht) h)),
      ))
      (tells_agree w s t)

pub agree_meets : (w : ℕ) (s t : Trailing) → s.word < 2 ^ w → t.word < 2 ^ w → Meets (same_causes s t) (FoundEqual w s t) (agree_for w s t)
unfolding agree_for
agree_meets w s t hs ht =
    meets (same_causes s t) (sizes_agree w s t) (tells_eq s.word 0, λ _. (tells_eq t.word 0, λ _. tt))
    (λ n.
    let x = tells_sizes w s t (omega (arith, n.0)) hs (omega (arith, n.1.0)) ht in
    record { means = yes x; needed = told_true x })

pub agree_answered : (w : ℕ) (s t : Trailing) → 0 < s.word → 0 < t.word → agree_for w s t ≡ answered (sizes_agree w s t)
unfolding agree_for unless
agree_answered w s t ps pt = simp (ne_eqb s.word 0 (λ z. omega arith), ne_eqb t.word 0 (λ z. omega arith))

-- one answer at most means it
pub one_found : (w : ℕ) (s t : Trailing) (q r : Bool) → FoundEqual w s t q → FoundEqual w s t r → q ≡ r
one_found w s t true r x y = sym (y.needed (x.means refl))
one_found w s t false true x y = x.needed (y.means refl)
one_found w s t false false x y = refl
