-- Sequences of sizes and the line below them: equal sequences have the same line and meet it at the same counts. Assumes nothing.
use mathlib.Core.Path.{◌≡◌, sym, ap, ap₂, ◌∙◌, subst}
use Prim.Native.Nat.{ℕ, suc, ◌+◌, ◌-◌, ◌*◌, ◌/◌, ◌%◌, ◌^◌, ◌≤◌, ◌<◌}
use native.Mathlib.Nat.{le_antisymm, mod-add-mod, mod_self, mul-mod_left, mul-le-mul_left, mul_assoc, add-mul-mod_self_right}
use native.Mathlib.Omega.{arith}
use native.Mathlib.Decide.{dec_le}
use Rattle.util_defs.specs.Power.{PowerOfTwo}
use Rattle.util_defs.specs.Round.{up}
use Rattle.util_defs.proofs.Powers.{positive, power_divides, through}
use Rattle.util_defs.proofs.Rounding.{multiple, sum_multiple, up_multiple, up_ge, up_near, up_is, up_least, up_shift, up_whole}
use Rattle.trailing_defs.specs.Size.{size_with}
use Rattle.full_defs.specs.Form.{Parts, size_of, SoundParts}
use Rattle.full_defs.proofs.Lowest.{LowestBit, exponents_lt, doublings, twice_power, twice_le, low_divides, low_below, low_under, odd_rest, reach}

-- elements of whole blocks are whole blocks
pub whole_times : (n e A : ℕ) → e % A ≡ 0 → n * e % A ≡ 0
whole_times n e A f =
    let k : n * (e / A) * A ≡ n * e = mul_assoc n (e / A) A ∙ ap (λ (z : ℕ). n * z) (multiple e A f) in
    ap (λ (z : ℕ). z % A) (sym k) ∙ mul-mod_left (n * (e / A)) A

-- what is left of a multiple without a multiple is one
whole_rest : (x y A : ℕ) → x % A ≡ 0 → (x + y) % A ≡ 0 → y % A ≡ 0
whole_rest x y A e f = ap (λ (z : ℕ). z % A) {x = y} {y = 0 + y} (omega arith) ∙ sym (ap (λ (z : ℕ). (z + y) % A) e) ∙ mod-add-mod x A y ∙ f

-- what the same x takes to multiples of A has the same remainder
same_rest : (P Q x A : ℕ) → (P + x) % A ≡ 0 → (Q + x) % A ≡ 0 → P % A ≡ Q % A
same_rest P Q x A e f =
    let i = (P + x) / A in
    let j = (Q + x) / A in
    let ei : i * A ≡ P + x = multiple (P + x) A e in
    let ej : j * A ≡ Q + x = multiple (Q + x) A f in
    let s : P + j * A ≡ Q + i * A = omega arith in
    sym (add-mul-mod_self_right P j A) ∙ ap (λ (z : ℕ). z % A) s ∙ add-mul-mod_self_right Q i A

-- rounding to a multiple of G first changes nothing, where G divides A, nor to what divides A and the bytes
up_twice : (v G A : ℕ) → 0 < G → 0 < A → A % G ≡ 0 → up (up v G) A ≡ up v A
up_twice v G A g p e =
    sym (up_is (up v G) A (up v A) p (up_multiple v A) (up_least v G (up v A) g (through G A (up v A) e (up_multiple v A)) (up_ge v A p))
    (omega (arith, up_ge v G g, up_near v A p)))

pub up_unit : (v t G A : ℕ) → 0 < G → 0 < A → A % G ≡ 0 → t % G ≡ 0 → up (up v G + t) A ≡ up (v + t) A
up_unit v t G A g p e f =
    let x : up v G + t ≡ up (v + t) G = omega (arith, up_shift v G t g f, ap (λ (z : ℕ). up z G) {x = v + t} {y = t + v} (omega arith)) in
    ap (λ (z : ℕ). up z A) x ∙ up_twice (v + t) G A g p e

-- f n is at least b + P + n·e at every count, and is that at one
pub record Floor (f : ℕ → ℕ) (b A P e : ℕ) : Type 0 where
  pub pos : 0 < A
  pub sizes : (n : ℕ) → f n ≡ b + up (P + n * e) A
  pub count : ℕ
  pub meets : (P + count * e) % A ≡ 0

-- A divides e: P is the phase rounded up to A
pub floor_whole : (s : Parts) → SoundParts s → s.elem % s.align ≡ 0 → Floor (size_of s) s.base s.align (up s.phase s.align) s.elem
unfolding size_with
floor_whole s h d =
    let A = s.align in
    let p = s.phase in
    let pos : 0 < A = positive h.power in
    record {
      pos = pos;
      sizes = λ n. ap (λ (z : ℕ). s.base + z) (sym (up_unit p (n * s.elem) A A pos pos (mod_self A) (whole_times n s.elem A d)));
      count = 0;
      meets = ap (λ (z : ℕ). z % A) {x = up p A + 0 * s.elem} {y = up p A} (omega arith) ∙ up_multiple p A;
    }

-- it does not: P is the phase rounded up to the lowest one bit of e
pub floor_low : (s : Parts) (g : ℕ) → SoundParts s → LowestBit s.elem g → (s.elem % s.align ≡ 0 → ⊥)
    → Floor (size_of s) s.base s.align (up s.phase g) s.elem
unfolding size_with
floor_low s g h l d =
    let A = s.align in
    let p = s.phase in
    let e = s.elem in
    let pos : 0 < A = positive h.power in
    let gpos : 0 < g = positive l.power in
    let under : A % g ≡ 0 = low_under l h.power d in
    let less : l.power.exponent < h.power.exponent = exponents_lt l.power h.power (low_below l h.power d) in
    let j = h.power.exponent - l.power.exponent in
    let q : A ≡ 2 ^ j * g = doublings l.power h.power (omega arith) in
    let P = up p g in
    let m : P / g * g ≡ P = multiple P g (up_multiple p g) in
    let r = reach g l.odd j (P / g) in
    let u : P + r.0 * e ≡ r.1 * A = ap₂ (λ (x y : ℕ). x + r.0 * y) (sym m) l.is ∙ r.2 ∙ ap (λ (z : ℕ). r.1 * z) (sym q) in
    record {
      pos = pos;
      sizes = λ n. ap (λ (z : ℕ). s.base + z) (sym (up_unit p (n * e) g A gpos pos under (whole_times n e g (low_divides l))));
      count = r.0;
      meets = ap (λ (z : ℕ). z % A) u ∙ mul-mod_left r.1 A;
    }

module _ (f g : ℕ → ℕ) (b A P c B Q e : ℕ) (x : Floor f b A P e) (y : Floor g c B Q e) (h : (n : ℕ) → f n ≡ g n) where
  line_le : c + Q ≤ b + P
  line_le =
      let n = x.count in
      let u : up (P + n * e) A ≡ P + n * e = up_whole (P + n * e) A x.pos x.meets in
      omega (arith, x.sizes n, y.sizes n, h n, up_ge (Q + n * e) B y.pos)

  meets_both : b + P ≡ c + Q → (m : ℕ) → (P + m * e) % A ≡ 0 → (Q + m * e) % B ≡ 0
  meets_both k m d =
      let u : up (P + m * e) A ≡ P + m * e = up_whole (P + m * e) A x.pos d in
      let v : up (Q + m * e) B ≡ Q + m * e = omega (arith, x.sizes m, y.sizes m, h m) in
      ap (λ (z : ℕ). z % B) (sym v) ∙ up_multiple (Q + m * e) B

  -- from a count where both meet it, the same steps lead to the next
  steps : b + P ≡ c + Q → (m : ℕ) → m * e % A ≡ 0 → m * e % B ≡ 0
  steps k m d =
      let n = x.count in
      let at : (Q + n * e) % B ≡ 0 = meets_both k n x.meets in
      let on : (P + (n + m) * e) % A ≡ 0 = ap (λ (z : ℕ). z % A) {x = P + (n + m) * e} {y = P + n * e + m * e} (omega arith) ∙ sum_multiple A (P + n * e) (m * e) x.meets d in
      whole_rest (Q + n * e) (m * e) B at
      (ap (λ (z : ℕ). z % B) {x = Q + n * e + m * e} {y = Q + (n + m) * e} (omega arith) ∙ meets_both k (n + m) on)

-- two lines of one sequence: the same multiples of e are whole, and equal A leave equal remainders
pub record Meet (A P B Q e : ℕ) : Type 0 where
  pub there : (m : ℕ) → m * e % A ≡ 0 → m * e % B ≡ 0
  pub here : (m : ℕ) → m * e % B ≡ 0 → m * e % A ≡ 0
  pub rests : A ≡ B → P % A ≡ Q % B

pub meet : {f g : ℕ → ℕ} {b A P c B Q e : ℕ} → Floor f b A P e → Floor g c B Q e → ((n : ℕ) → f n ≡ g n) → Meet A P B Q e
meet {f} {g} {b} {A} {P} {c} {B} {Q} {e} x y h =
    let back : (n : ℕ) → g n ≡ f n = λ n. sym (h n) in
    let line : b + P ≡ c + Q = le_antisymm (line_le g f c B Q b A P e y x back) (line_le f g b A P c B Q e x y h) in
    record {
      there = steps f g b A P c B Q e x y h line;
      here = steps g f c B Q b A P e y x back (sym line);
      rests = λ a.
          same_rest P Q (x.count * e) A x.meets
          (subst (λ (z : ℕ). (Q + x.count * e) % z ≡ 0) (sym a) (meets_both f g b A P c B Q e x y h line x.count x.meets))
          ∙ ap (λ (z : ℕ). Q % z) a;
    }

-- if every multiple of e that A divides B divides too, and A does not divide e, then B is no larger
pub power_le : {A B e g : ℕ} → PowerOfTwo A → PowerOfTwo B → LowestBit e g → (e % A ≡ 0 → ⊥)
    → ((m : ℕ) → m * e % A ≡ 0 → m * e % B ≡ 0) → B ≤ A
power_le {A} {B} {e} {g} x y l d h = go (dec_le B A)
  where
    go : Dec (B ≤ A) → B ≤ A
    go (yes j) = j
    go (no j) =
        let less : A < B = omega arith in
        let o = l.odd in
        let m = A / g in
        let q : m * g ≡ A = multiple A g (low_under l x d) in
        let u : m * e ≡ (o + o + 1) * A = ap (λ (z : ℕ). m * z) l.is ∙ (omega arith ∙ ap (λ (z : ℕ). (o + o + 1) * z) q) in
        let t : m * e % B ≡ 0 = h m (ap (λ (z : ℕ). z % A) u ∙ mul-mod_left (o + o + 1) A) in
        let w : m * e % (A + A) ≡ 0 = through (A + A) B (m * e) (power_divides (twice_power x) y (twice_le x y less)) t in
        absurd (odd_rest o A (positive x) (subst (λ (z : ℕ). z % (A + A) ≡ 0) u w))

-- a sequence tells its element size
elem_le : (s t : Parts) → SoundParts s → SoundParts t → ((n : ℕ) → size_of s n ≡ size_of t n) → t.elem ≤ s.elem
unfolding size_with
elem_le s t x y h = go (dec_le t.elem s.elem)
  where
    go : Dec (t.elem ≤ s.elem) → t.elem ≤ s.elem
    go (yes j) = j
    go (no j) =
        let n = s.base + s.phase + s.align in
        let m : n * suc s.elem ≤ n * t.elem = mul-le-mul_left n (omega arith) in
        absurd (omega (arith, h n, up_near (s.phase + n * s.elem) s.align (positive x.power), up_ge (t.phase + n * t.elem) t.align (positive y.power)))

pub same_elem : (s t : Parts) → SoundParts s → SoundParts t → ((n : ℕ) → size_of s n ≡ size_of t n) → s.elem ≡ t.elem
same_elem s t x y h = le_antisymm (elem_le t s y x (λ n. sym (h n))) (elem_le s t x y h)
