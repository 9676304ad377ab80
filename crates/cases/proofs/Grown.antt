-- What the recursion over the slots left asks for at each call, and what it writes in all. Assumes nothing.
use mathlib.Core.Path.{◌≡◌, refl, sym, ap, subst, ◌∙◌}
use mathlib.Core.List.{List, ◌++◌}
use Prim.Native.Nat.{ℕ, zero, suc, ◌+◌, ◌-◌, ◌*◌, ◌%◌, ◌^◌, ◌≤◌, ◌<◌}
use lib.ListN.{length, length-append}
use lib.Dec.{lit<}
use lib.Pow.{pow-add, shl_exact}
use lib.Seq.{sets}
use native.Mathlib.Nat.{pow-succ', pow-le-pow_right, mul-le-mul_right, one-mul, pow-zero}
use native.Mathlib.Omega.{arith}
use Rattle.words.specs.Bytes.{word_bytes, put_into}
use Rattle.words.proofs.LittleEndian.{sets_sets, word_length, put_within, put_next}
use Rattle.cases.specs.Grow.{list_bytes, grown_bytes}

-- 2 shifted by b bits, s times
pub pow_of : (b s : ℕ) → 2 ^ (b * s) ≡ (2 ^ b) ^ s
pow_of b zero =
    let z : b * 0 ≡ 0 = omega arith in
    ap (λ (n : ℕ). 2 ^ n) z ∙ sym (pow-zero (2 ^ b))
pow_of b (suc s) =
    let d : b * suc s ≡ b * s + b = omega arith in
    ap (λ (n : ℕ). 2 ^ n) d ∙ pow-add 2 (b * s) b ∙ omega (arith, ap (λ (n : ℕ). n * 2 ^ b) (pow_of b s), pow-succ' (2 ^ b) s)

-- 1 shifted by whole bytes
pub unit : (s : ℕ) → s < 8 → 1 * 2 ^ (8 * s) % 2 ^ 64 ≡ 256 ^ s
unit s h = shl_exact {a = 1} 1 (8 * s) 64 (lit< tt) (omega arith) ∙ one-mul (2 ^ (8 * s)) ∙ pow_of 8 s

pub list_length : (v : ℕ) → length (list_bytes v) ≡ 40
list_length v =
    length-append (word_bytes v ++ word_bytes (v + 256) ++ word_bytes (v + 512) ++ word_bytes (v + 1024)) (word_bytes (v + 2048))
    ∙ omega (arith, length-append (word_bytes v ++ word_bytes (v + 256) ++ word_bytes (v + 512)) (word_bytes (v + 1024)), length-append (word_bytes v ++ word_bytes (v + 256)) (word_bytes (v + 512)), length-append (word_bytes v) (word_bytes (v + 256)), word_length v, word_length (v + 256), word_length (v + 512), word_length (v + 1024), word_length (v + 2048))

pub grown_length : (k s v : ℕ) → length (grown_bytes k s v) ≡ 40 * 4 ^ k
unfolding grown_bytes
grown_length zero s v = list_length v
grown_length (suc k) s v =
    let f = v - 255 * 256 ^ s in
    let a = grown_bytes k (s + 1) f in
    let b = grown_bytes k (s + 1) (f + 256 ^ s) in
    let c = grown_bytes k (s + 1) (f + 2 * 256 ^ s) in
    let d = grown_bytes k (s + 1) (f + 3 * 256 ^ s) in
    length-append (a ++ b ++ c) d
    ∙ omega (arith, length-append (a ++ b) c, length-append a b, grown_length k (s + 1) f, grown_length k (s + 1) (f + 256 ^ s), grown_length k (s + 1) (f + 2 * 256 ^ s), grown_length k (s + 1) (f + 3 * 256 ^ s), pow-succ' 4 k)

-- five words, one behind the other
pub puts_list : (l : List ℕ) (i v : ℕ) → i + 40 ≤ length l
    → put_into (put_into (put_into (put_into (put_into l i v) (i + 8) (v + 256)) (i + 16) (v + 512)) (i + 24) (v + 1024)) (i + 32) (v + 2048) ≡ sets l i (list_bytes v)
puts_list l i v h =
    let n1 = word_length v in
    let n2 = length-append (word_bytes v) (word_bytes (v + 256)) in
    let n3 = length-append (word_bytes v ++ word_bytes (v + 256)) (word_bytes (v + 512)) in
    let n4 = length-append (word_bytes v ++ word_bytes (v + 256) ++ word_bytes (v + 512)) (word_bytes (v + 1024)) in
    let e1 = put_within l i v (omega arith) in
    let e2 = put_next (word_bytes v) l i (i + 8) 8 (v + 256) n1 refl (omega arith) in
    let e3 = put_next (word_bytes v ++ word_bytes (v + 256)) l i (i + 16) 16 (v + 512) (omega (arith, n2, n1, word_length (v + 256))) refl (omega arith) in
    let e4 = put_next (word_bytes v ++ word_bytes (v + 256) ++ word_bytes (v + 512)) l i (i + 24) 24 (v + 1024) (omega (arith, n3, n2, n1, word_length (v + 256), word_length (v + 512))) refl (omega arith) in
    let e5 = put_next (word_bytes v ++ word_bytes (v + 256) ++ word_bytes (v + 512) ++ word_bytes (v + 1024)) l i (i + 32) 32 (v + 2048) (omega (arith, n4, n3, n2, n1, word_length (v + 256), word_length (v + 512), word_length (v + 1024))) refl (omega arith) in
    rw (e1, e2, e3, e4, e5) refl

-- ---- what a call asks for ----

abbrev pub Room : (at left s v L : ℕ) → Type 0
Room at left s v L = (at + 40 * 4 ^ left ≤ L) × (s + left ≤ 8) × (256 ^ (s + left) ≤ v + 256 ^ s) × (v + 2048 < 2 ^ 64)

module _ (at left s v L u : ℕ) (f : left ≡ 0 → ⊥) (e : u ≡ 256 ^ s) (r : Room at left s v L) where
  -- the slot's byte is 255, so that so much can be taken away
  pub taken : 255 * u ≤ v
  taken = go left f r
    where
      go : (k : ℕ) → (k ≡ 0 → ⊥) → Room at k s v L → 255 * u ≤ v
      go zero f r = absurd (f refl)
      go (suc k) f r =
          let h : 256 ^ (s + 1) ≤ 256 ^ (s + suc k) = pow-le-pow_right (lit< tt) (omega arith) in
          omega (arith, e, pow-add 256 s 1, r.2)

  -- the call with the code j, one slot fewer, into a buffer as long
  pub next : (j a w N : ℕ) → j ≤ 3 → w + 255 * u ≡ v + j * u → a ≡ at + j * (40 * 4 ^ (left - 1)) → N ≡ L → Room a (left - 1) (s + 1) w N
  next j a w N h d g l = go left f r g
    where
      go : (k : ℕ) → (k ≡ 0 → ⊥) → Room at k s v L → a ≡ at + j * (40 * 4 ^ (k - 1)) → Room a (k - 1) (s + 1) w N
      go zero f r g = absurd (f refl)
      go (suc k) f r g =
          let o : suc k - 1 ≡ k = omega arith in
          let m : j * (40 * 4 ^ k) ≤ 3 * (40 * 4 ^ k) = mul-le-mul_right (40 * 4 ^ k) h in
          let n : j * u ≤ 3 * u = mul-le-mul_right u h in
          let g' : a ≡ at + j * (40 * 4 ^ k) = rw o at g in
          let q : s + 1 + k ≡ s + suc k = omega arith in
          let z : 256 ^ (s + 1) ≡ 256 * u = omega (arith, e, pow-add 256 s 1) in
          let r2 : 256 ^ (s + 1 + k) ≤ w + 256 ^ (s + 1) = subst (λ (x : ℕ). 256 ^ x ≤ w + 256 ^ (s + 1)) (sym q) (omega (arith, e, r.2)) in
          let r0 : a + 40 * 4 ^ k ≤ N = omega (arith, pow-succ' 4 k, r.0) in
          let r1 : s + 1 + k ≤ 8 = omega (arith, r.1) in
          let r3 : w + 2048 < 2 ^ 64 = omega (arith, taken, r.3) in
          rw o (r0, r1, r2, r3)

-- ---- what four calls write ----

pub quarter : (k : ℕ) → (k ≡ 0 → ⊥) → 4 ^ k ≡ 4 * 4 ^ (k - 1)
quarter zero f = absurd (f refl)
quarter (suc k) f = let o : suc k - 1 ≡ k = omega arith in rw o (pow-succ' 4 k)

module _ (l x y z : List ℕ) (at b c d left s v u : ℕ) (f : left ≡ 0 → ⊥) (e : u ≡ 256 ^ s) where
  pub grown : (r : List ℕ) → b ≡ at + 40 * 4 ^ (left - 1) → c ≡ b + 40 * 4 ^ (left - 1) → d ≡ c + 40 * 4 ^ (left - 1)
      → x ≡ sets l at (grown_bytes (left - 1) (s + 1) (v - 255 * u))
      → y ≡ sets x b (grown_bytes (left - 1) (s + 1) (v - 255 * u + u))
      → z ≡ sets y c (grown_bytes (left - 1) (s + 1) (v - 255 * u + 2 * u))
      → r ≡ sets z d (grown_bytes (left - 1) (s + 1) (v - 255 * u + 3 * u))
      → r ≡ sets l at (grown_bytes left s v)
  unfolding grown_bytes
  grown r = go left f
    where
      go : (k : ℕ) → (k ≡ 0 → ⊥) → b ≡ at + 40 * 4 ^ (k - 1) → c ≡ b + 40 * 4 ^ (k - 1) → d ≡ c + 40 * 4 ^ (k - 1)
          → x ≡ sets l at (grown_bytes (k - 1) (s + 1) (v - 255 * u))
          → y ≡ sets x b (grown_bytes (k - 1) (s + 1) (v - 255 * u + u))
          → z ≡ sets y c (grown_bytes (k - 1) (s + 1) (v - 255 * u + 2 * u))
          → r ≡ sets z d (grown_bytes (k - 1) (s + 1) (v - 255 * u + 3 * u))
          → r ≡ sets l at (grown_bytes k s v)
      go zero f hb hc hd ex ey ez er = absurd (f refl)
      go (suc k) f hb' hc' hd' ex' ey' ez' er' =
          let o : suc k - 1 ≡ k = omega arith in
          let hb : b ≡ at + 40 * 4 ^ k = rw o at hb' in
          let hc : c ≡ b + 40 * 4 ^ k = rw o at hc' in
          let hd : d ≡ c + 40 * 4 ^ k = rw o at hd' in
          let w = v - 255 * u in
          let ex : x ≡ sets l at (grown_bytes k (s + 1) w) = rw o at ex' in
          let ey : y ≡ sets x b (grown_bytes k (s + 1) (w + u)) = rw o at ey' in
          let ez : z ≡ sets y c (grown_bytes k (s + 1) (w + 2 * u)) = rw o at ez' in
          let er : r ≡ sets z d (grown_bytes k (s + 1) (w + 3 * u)) = rw o at er' in
          let g1 = grown_bytes k (s + 1) w in
          let g2 = grown_bytes k (s + 1) (w + u) in
          let g3 = grown_bytes k (s + 1) (w + 2 * u) in
          let g4 = grown_bytes k (s + 1) (w + 3 * u) in
          let n1 = grown_length k (s + 1) w in
          let n2 = grown_length k (s + 1) (w + u) in
          let n3 = grown_length k (s + 1) (w + 2 * u) in
          let e1 : y ≡ sets l at (g1 ++ g2) = ey ∙ ap (λ (t : List ℕ). sets t b g2) ex ∙ sets_sets g1 g2 l at b (omega (arith, hb, n1)) in
          let e2 : z ≡ sets l at (g1 ++ g2 ++ g3) = ez ∙ ap (λ (t : List ℕ). sets t c g3) e1 ∙ sets_sets (g1 ++ g2) g3 l at c (omega (arith, hb, hc, n1, n2, length-append g1 g2)) in
          let e3 : r ≡ sets l at (g1 ++ g2 ++ g3 ++ g4) = er ∙ ap (λ (t : List ℕ). sets t d g4) e2 ∙ sets_sets (g1 ++ g2 ++ g3) g4 l at d (omega (arith, hb, hc, hd, n1, n2, n3, length-append (g1 ++ g2) g3, length-append g1 g2)) in
          subst (λ (t : ℕ). r ≡ sets l at (grown_bytes k (s + 1) (v - 255 * t) ++ grown_bytes k (s + 1) (v - 255 * t + t) ++ grown_bytes k (s + 1) (v - 255 * t + 2 * t) ++ grown_bytes k (s + 1) (v - 255 * t + 3 * t))) e e3
