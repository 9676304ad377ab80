-- The ways out of reading a head. Assumes nothing.
use mathlib.Core.Path.{◌≡◌, refl, sym, ap, ◌∙◌}
use mathlib.Core.List.{List, [], ◌∷◌}
use Prim.Native.Nat.{ℕ, zero, suc, ◌+◌, ◌-◌, ◌*◌, ◌%◌, ◌^◌, ◌≤◌, ◌<◌, max}
use native.Mathlib.Nat.{pow-le-pow_right, max-eq_right, two-pow-succ}
use native.Mathlib.Omega.{arith}
use borrow.Author.Tests.{le-leb, lt-leb, ne_eqb}
use lib.Pow.{pow_pos}
use lib.ListN.{length, take, drop, get_or}
use lib.Seq.{drop-cons}
use Rattle.std.specs.Int.{from_le_bytes, w16, w32}
use Rattle.util_defs.specs.Width.{M}
use Rattle.util_defs.specs.Placed.{Placed, reached, stopped, go_on}
use Rattle.words.specs.Bytes.{value_of}
use Rattle.words.proofs.LittleEndian.{value_parts}
use Rattle.describe_defs.specs.Describe.{Form, Tag, code, opens, unknown, tag_of, byte_at, count_at, power_in}
use Rattle.describe_defs.specs.Heads.{Head, code_head, form_head, opening, tag_head, head_at}
use Rattle.describe_defs.proofs.Steps.{byte_found, TagMeans, tag_means}

-- a byte is a number of one byte, and two of them, or four, a count
byte_value : (s : List ℕ) (i : ℕ) → i < length s → value_of (take 1 (drop i s)) ≡ get_or s i 0
unfolding value_of
byte_value s i h = let e : get_or s i 0 + 256 * 0 ≡ get_or s i 0 = omega arith in rw (drop-cons s i 0 h, e)

pub joined_count : (s : List ℕ) (i : ℕ) → i + 4 ≤ length s
    → from_le_bytes w32 (get_or s i 0 ∷ get_or s (i + 1) 0 ∷ get_or s (i + 2) 0 ∷ get_or s (i + 3) 0 ∷ []) ≡ value_of (take 4 (drop i s))
joined_count s i h =
    omega (
      arith,
      value_parts s 1 3 i (i + 1) refl (omega arith),
      value_parts s 1 2 (i + 1) (i + 2) (omega arith) (omega arith),
      value_parts s 1 1 (i + 2) (i + 3) (omega arith) (omega arith),
      byte_value s i (omega arith),
      byte_value s (i + 1) (omega arith),
      byte_value s (i + 2) (omega arith),
      byte_value s (i + 3) (omega arith),
    )

pub joined_two : (s : List ℕ) (i : ℕ) {a b : ℕ} → i + 2 ≤ length s → a ≡ get_or s i 0 → b ≡ get_or s (i + 1) 0
    → from_le_bytes w16 (a ∷ b ∷ []) ≡ value_of (take 2 (drop i s))
joined_two s i h ea eb =
    omega (arith, value_parts s 1 1 i (i + 1) refl (omega arith), byte_value s i (omega arith), byte_value s (i + 1) (omega arith))

module _ (k : ℕ) (s : List ℕ) (i : ℕ) where
  pub count_short : i ≤ length s → length s < i + k → stopped 33 (length s) ≡ count_at k s i
  count_short h g = let e : max i (length s) ≡ length s = max-eq_right h in sym (rw (lt-leb (i + k) (length s) g, e))

  pub count_whole : i + k ≤ length s → {n : ℕ} → n ≡ value_of (take k (drop i s)) → reached n ≡ count_at k s i
  count_whole h e = sym (rw (le-leb (i + k) (length s) h, e))

-- a struct's member count, by the bytes that were read
module _ (s : List ℕ) (i : ℕ) where
  pub members_one : {n : ℕ} → byte_at s i ≡ reached n → reached n ≡ count_at 1 s i
  members_one e = let h = byte_found s i e in count_whole 1 s i (omega (arith, h.within)) (sym h.is ∙ sym (byte_value s i h.within))

  pub members_two : {m n k : ℕ} → byte_at s i ≡ reached m → byte_at s (i + 1) ≡ reached n → k ≡ from_le_bytes w16 (m ∷ n ∷ []) → reached k ≡ count_at 2 s i
  members_two e f g = let h = byte_found s i e in let m = byte_found s (i + 1) f in
      count_whole 2 s i (omega (arith, m.within)) (g ∙ joined_two s i (omega (arith, m.within)) (sym h.is) (sym m.is))

shifted : (p : ℕ) → p ≤ 63 → 1 * 2 ^ p % 2 ^ 64 ≡ 2 ^ p
shifted p h = let b : 2 ^ p ≤ 2 ^ 63 = pow-le-pow_right (omega arith) h in omega arith

module _ (w : ℕ) (i : ℕ) {b : ℕ} where
  -- 2 to the power is held where the byte is at most the number of bits
  pub power_passes : b ≤ 64 → w < b → stopped 43 i ≡ power_in w i b
  power_passes g f =
      let m : 2 ^ w ≤ 2 ^ (b - 1) = pow-le-pow_right (omega arith) (omega arith) in
      sym (rw (le-leb b 64 g, ne_eqb b 0 (λ e. omega (arith, e, f)), lt-leb (2 ^ (b - 1)) (M w) (omega (arith, pow_pos w))))

  pub power_some : b ≤ 64 → b ≤ w → (b ≡ 0 → ⊥) → reached (1 * 2 ^ (b - 1) % 2 ^ 64) ≡ power_in w i b
  power_some g k f =
      let m : 2 ^ suc (b - 1) ≤ 2 ^ w = pow-le-pow_right (omega arith) (omega arith) in
      ap reached (shifted (b - 1) (omega arith))
      ∙ sym (rw (le-leb b 64 g, ne_eqb b 0 f, le-leb (2 ^ (b - 1)) (M w) (omega (arith, m, pow_pos (b - 1), two-pow-succ (b - 1)))))

-- the head by its tag
module _ (w d : ℕ) (s : List ℕ) (t : ℕ) where
  -- what is read of the tag
  abbrev Tagged : ℕ → Placed Head
  Tagged b = tag_head w d s t b (tag_of b)

  pub head_cut : {k j : ℕ} → byte_at s t ≡ stopped k j → stopped k j ≡ head_at w d s t
  unfolding head_at
  head_cut e = sym (ap (λ (p : Placed ℕ). go_on p Tagged) e)

  head_read : {b : ℕ} → byte_at s t ≡ reached b → {h : Placed Head} → Tagged b ≡ h → h ≡ head_at w d s t
  unfolding head_at
  head_read e f = sym (ap (λ (p : Placed ℕ). go_on p Tagged) e ∙ f)

  pub head_code : {b : ℕ} → byte_at s t ≡ reached b → b ≤ 8 → reached (code_head b) ≡ head_at w d s t
  head_code {b} e g = head_read e (rw (le-leb b 8 g))

  pub head_unknown : {b : ℕ} → byte_at s t ≡ reached b → 8 < b → (b ≡ 16 → ⊥) → (b ≡ 17 → ⊥) → (b ≡ 18 → ⊥) → (b ≡ 19 → ⊥) → stopped 34 t ≡ head_at w d s t
  head_unknown {b} e g x y z u = head_read e (rw (lt-leb b 8 g, ne_eqb b 16 x, ne_eqb b 17 y, ne_eqb b 18 z, ne_eqb b 19 u))

  -- one that opens a part
  pub opened : (f : Form) → (d ≡ 0 → ⊥) → opening w d s t f ≡ form_head w s t f
  opened = open_by d
    where
      open_by : (e : ℕ) (f : Form) → (e ≡ 0 → ⊥) → opening w e s t f ≡ form_head w s t f
      open_by zero f n = absurd (n refl)
      open_by (suc e) f n = refl

  pub head_opens : (f : Form) {b : ℕ} → byte_at s t ≡ reached b → tag_of b ≡ opens f → (d ≡ 0 → ⊥) → form_head w s t f ≡ head_at w d s t
  head_opens f {b} e g n = head_read e (ap (tag_head w d s t b) g ∙ opened f n)

  pub head_deep : {b : ℕ} → byte_at s t ≡ reached b → 16 ≤ b → b ≤ 19 → d ≡ 0 → stopped 35 t ≡ head_at w d s t
  head_deep {b} e h a z = head_read e (go d z (tag_of b) (tag_means b))
    where
      go : (n : ℕ) → n ≡ 0 → (g : Tag) → TagMeans b g → tag_head w n s t b g ≡ stopped 35 t
      go zero z code m = absurd (omega (arith, h, m))
      go zero z (opens f) m = refl
      go zero z unknown m = absurd (omega (arith, h, a, m.1.0, m.1.1.0, m.1.1.1.0, m.1.1.1.1))
      go (suc n) z g m = absurd (omega arith)
