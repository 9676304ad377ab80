-- A head at a place: its bytes, its count, and what is put for it. Assumes nothing.
use mathlib.Core.Path.{◌≡◌, refl, sym, ap, subst, ◌∙◌}
use mathlib.Core.Bool.{true, false}
use mathlib.Core.List.{List, [], ◌∷◌, ◌++◌}
use Prim.Native.Nat.{ℕ, suc, ◌+◌, ◌*◌, ◌≤◌, ◌<◌}
use native.Mathlib.Omega.{arith}
use borrow.Author.Tests.{eqb-true}
use lib.Dec.{eqb, ltb}
use lib.ListN.{length, take, drop, get_or, set, length-drop}
use lib.Seq.{sets, drop-cons, take-suc, get_or-drop, length-take-le}
use Rattle.std.specs.Int.{from_le_bytes, w16}
use Rattle.words.proofs.LittleEndian.{sets_sets}
use Rattle.words.specs.Bytes.{value_of}
use Rattle.describe_defs.specs.Describe.{struct_tag, tag_of}
use Rattle.rewrite_defs.specs.Heads.{behind_tag, has_tag}
use Rattle.rewrite_defs.specs.Rewrite.{Way, longer, shorter, from, turned_head, count_above}
use Rattle.rewrite.specs.View.{head_at, HeadIn, tagged, struct_put}

-- ---- a run of bytes that is copied
pub copied : (s out₀ out : List ℕ) (at to i : ℕ) → at + i < length s → to + i < length out₀ → out ≡ sets out₀ to (take i (drop at s))
    → set out (to + i) (get_or s (at + i) 0) ≡ sets out₀ to (take (i + 1) (drop at s))
copied s out₀ out at to i h g e =
    let n : i + 1 ≡ suc i = omega arith in
    let l = length-take-le i (drop at s) (omega (arith, length-drop at s)) in
    let x : get_or s (at + i) 0 ≡ get_or (drop at s) i 0 = sym (get_or-drop at s i 0) in
    rw (e, n, x, take-suc (drop at s) i 0 (omega (arith, length-drop at s)))
    (sets_sets (take i (drop at s)) (get_or (drop at s) i 0 ∷ []) out₀ to (to + i) (ap (λ (k : ℕ). to + k) (sym l)))

-- ---- its bytes one by one
take_cons : (s : List ℕ) (n i j : ℕ) → i < length s → j ≡ suc i → take (suc n) (drop i s) ≡ get_or s i 0 ∷ take n (drop j s)
take_cons s n i j h e = rw (drop-cons s i 0 h, e)

four : (s : List ℕ) (i : ℕ) → i + 4 ≤ length s → take 4 (drop i s) ≡ get_or s i 0 ∷ get_or s (i + 1) 0 ∷ get_or s (i + 2) 0 ∷ get_or s (i + 3) 0 ∷ []
four s i h =
    rw (take_cons s 3 i (i + 1) (omega arith) (omega arith), take_cons s 2 (i + 1) (i + 2) (omega arith) (omega arith), take_cons s 1 (i + 2) (i + 3) (omega arith) (omega arith), take_cons s 0 (i + 3) (i + 4) (omega arith) (omega arith))
    refl

five : (s : List ℕ) (i : ℕ) → i + 5 ≤ length s
    → take 5 (drop i s) ≡ get_or s i 0 ∷ get_or s (i + 1) 0 ∷ get_or s (i + 2) 0 ∷ get_or s (i + 3) 0 ∷ get_or s (i + 4) 0 ∷ []
five s i h =
    rw (take_cons s 4 i (i + 1) (omega arith) (omega arith), take_cons s 3 (i + 1) (i + 2) (omega arith) (omega arith), take_cons s 2 (i + 2) (i + 3) (omega arith) (omega arith), take_cons s 1 (i + 3) (i + 4) (omega arith) (omega arith), take_cons s 0 (i + 4) (i + 5) (omega arith) (omega arith))
    refl

-- the head of a struct
head_four : (s : List ℕ) (i : ℕ) → HeadIn s i → get_or s i 0 ≡ 17 → (i + 4 ≤ length s) × (head_at s i ≡ tagged 17 s i)
head_four s i h e =
    let l : i + 4 ≤ length s = (rw e at h).1 in
    (l, ap (λ (b : ℕ). take (1 + behind_tag (tag_of b)) (drop i s)) e ∙ four s i l ∙ ap (λ (b : ℕ). b ∷ get_or s (i + 1) 0 ∷ get_or s (i + 2) 0 ∷ get_or s (i + 3) 0 ∷ []) e)

head_five : (s : List ℕ) (i : ℕ) → HeadIn s i → get_or s i 0 ≡ 19 → (i + 5 ≤ length s) × (head_at s i ≡ tagged 19 s i ++ (get_or s (i + 4) 0 ∷ []))
head_five s i h e =
    let l : i + 5 ≤ length s = (rw e at h).1 in
    (l, ap (λ (b : ℕ). take (1 + behind_tag (tag_of b)) (drop i s)) e ∙ five s i l ∙ ap (λ (b : ℕ). b ∷ get_or s (i + 1) 0 ∷ get_or s (i + 2) 0 ∷ get_or s (i + 3) 0 ∷ get_or s (i + 4) 0 ∷ []) e)

-- ---- a head that is turned
pub struct_room : (way : Way) (s : List ℕ) (i : ℕ) → HeadIn s i → eqb (get_or s i 0) (struct_tag (from way)) ≡ true → i + 4 ≤ length s
struct_room longer s i h e = (head_four s i h (eqb-true (get_or s i 0) 17 e)).0
struct_room shorter s i h e = omega (arith, (head_five s i h (eqb-true (get_or s i 0) 19 e)).0)

pub five_room : {way : Way} (s : List ℕ) (i : ℕ) → way ≡ shorter → HeadIn s i → eqb (get_or s i 0) (struct_tag (from way)) ≡ true → i + 5 ≤ length s
five_room s i w h e = (head_five s i h (eqb-true (get_or s i 0) 19 (rw w at e))).0

pub turned_is : (way : Way) (s : List ℕ) (i : ℕ) → HeadIn s i → eqb (get_or s i 0) (struct_tag (from way)) ≡ true → turned_head way (head_at s i) ≡ struct_put way s i
turned_is longer s i h e = let x = (head_four s i h (eqb-true (get_or s i 0) 17 e)).1 in rw x
turned_is shorter s i h e = let x = (head_five s i h (eqb-true (get_or s i 0) 19 e)).1 in rw x

pub head_tag : (tag : ℕ) (s : List ℕ) (i : ℕ) → i < length s → has_tag tag (head_at s i) ≡ eqb (get_or s i 0) tag
head_tag tag s i h =
    let k = behind_tag (tag_of (get_or s i 0)) in
    let e : 1 + k ≡ suc k = omega arith in
    ap (λ (n : ℕ). has_tag tag (take n (drop i s))) e ∙ rw (drop-cons s i 0 h)

pub kept_is : (way : Way) (s : List ℕ) (i : ℕ) → HeadIn s i → eqb (get_or s i 0) (struct_tag (from way)) ≡ false → turned_head way (head_at s i) ≡ head_at s i
kept_is way s i h e = let f = head_tag (struct_tag (from way)) s i h.0 ∙ e in rw f

pub above_never : {way : Way} (h : List ℕ) → way ≡ longer → false ≡ count_above way h
above_never h e = rw e

pub above_is : {way : Way} (s : List ℕ) (i : ℕ) {count : ℕ} → way ≡ shorter → HeadIn s i → eqb (get_or s i 0) (struct_tag (from way)) ≡ true
    → count ≡ from_le_bytes w16 (get_or s (i + 3) 0 ∷ get_or s (i + 4) 0 ∷ []) → ltb 255 count ≡ count_above way (head_at s i)
unfolding value_of
above_is s i {count} w h e p =
    let x = (head_five s i h (eqb-true (get_or s i 0) 19 (rw w at e))).1 in
    let z : count ≡ get_or s (i + 3) 0 + 256 * (get_or s (i + 4) 0 + 256 * 0) = omega (arith, p) in
    rw (w, x) (ap (ltb 255) z)

three : (s : List ℕ) (i : ℕ) → i + 4 ≤ length s → take 3 (drop (i + 1) s) ≡ get_or s (i + 1) 0 ∷ get_or s (i + 2) 0 ∷ get_or s (i + 3) 0 ∷ []
three s i h =
    rw (take_cons s 2 (i + 1) (i + 2) (omega arith) (omega arith), take_cons s 1 (i + 2) (i + 3) (omega arith) (omega arith), take_cons s 0 (i + 3) (i + 4) (omega arith) (omega arith))
    refl

-- a tag, and the three bytes behind that of a head
pub stores : (l s : List ℕ) (to at tag : ℕ) → at + 4 ≤ length s → sets (set l to tag) (to + 1) (take 3 (drop (at + 1) s)) ≡ sets l to (tagged tag s at)
stores l s to at tag h =
    let e : to + 1 ≡ suc to = omega arith in
    rw (three s at h, e)

-- ---- a byte more behind four
pub put_more : (l : List ℕ) (to a b c d e : ℕ) → set (sets l to (a ∷ b ∷ c ∷ d ∷ [])) (to + 4) e ≡ sets l to (a ∷ b ∷ c ∷ d ∷ e ∷ [])
put_more l to a b c d e = sets_sets (a ∷ b ∷ c ∷ d ∷ []) (e ∷ []) l to (to + 4) refl

-- ---- what is put for a struct
module _ {way : Way} (s : List ℕ) (at : ℕ) where
  pub long_room : way ≡ longer → length (struct_put way s at) ≡ 5
  long_room e = rw e refl

  pub short_room : way ≡ shorter → length (struct_put way s at) ≡ 4
  short_room e = rw e refl

module _ (s out₀ : List ℕ) (at to : ℕ) where
  -- what comes back and what stands in the output
  abbrev Puts : Way → ℕ → List ℕ → Type 0
  Puts way r out = (r ≡ to + length (struct_put way s at)) × (out ≡ sets out₀ to (struct_put way s at))

  pub put_long : {way : Way} {out : List ℕ} → way ≡ longer → out ≡ sets out₀ to (tagged 19 s at) → Puts way (to + 5) (set out (to + 4) 0)
  put_long e f = rw (e, f) (refl, put_more out₀ to 19 (get_or s (at + 1) 0) (get_or s (at + 2) 0) (get_or s (at + 3) 0) 0)

  pub put_short_lem : {way : Way} {out : List ℕ} → way ≡ shorter → out ≡ sets out₀ to (tagged 17 s at) → Puts way (to + 4) out
  put_short_lem e f = rw (e, f) (refl, refl)

-- ---- what is put for a head, by whether it is turned
pub head_length : (s : List ℕ) (i : ℕ) → HeadIn s i → length (head_at s i) ≡ 1 + behind_tag (tag_of (get_or s i 0))
head_length s i h = length-take-le (1 + behind_tag (tag_of (get_or s i 0))) (drop i s) (omega (arith, h.1, length-drop i s))

module _ (way : Way) (s out₀ : List ℕ) (at to : ℕ) (h : HeadIn s at) where
  abbrev pub PutsHead : ℕ → List ℕ → Type 0
  PutsHead r out = (r ≡ to + length (turned_head way (head_at s at))) × (out ≡ sets out₀ to (turned_head way (head_at s at)))

  pub puts_turned : {r : ℕ} {out : List ℕ} → eqb (get_or s at 0) (struct_tag (from way)) ≡ true
      → (r ≡ to + length (struct_put way s at)) × (out ≡ sets out₀ to (struct_put way s at)) → PutsHead r out
  puts_turned e x = rw (turned_is way s at h e) x

  pub turned_room : eqb (get_or s at 0) (struct_tag (from way)) ≡ true → (n : ℕ) → to + length (turned_head way (head_at s at)) ≤ n
      → (at + 4 ≤ length s) × (to + length (struct_put way s at) ≤ n)
  turned_room e n l = (struct_room way s at h e, subst (λ (x : List ℕ). to + length x ≤ n) (turned_is way s at h e) l)

  pub puts_kept : {k : ℕ} {out : List ℕ} → eqb (get_or s at 0) (struct_tag (from way)) ≡ false → k ≡ 1 + behind_tag (tag_of (get_or s at 0))
      → out ≡ sets out₀ to (take k (drop at s)) → PutsHead (to + k) out
  puts_kept e f x =
      rw (kept_is way s at h e) (
        ap (λ (n : ℕ). to + n) (f ∙ sym (head_length s at h)),
        x ∙ ap (λ (n : ℕ). sets out₀ to (take n (drop at s))) f,
      )

  pub kept_room : {k : ℕ} → eqb (get_or s at 0) (struct_tag (from way)) ≡ false → k ≡ 1 + behind_tag (tag_of (get_or s at 0)) → (n : ℕ)
      → to + length (turned_head way (head_at s at)) ≤ n → (at + k ≤ length s) × (to + k ≤ n)
  kept_room e f n l = (omega (arith, h.1), omega (arith, l, ap length (kept_is way s at h e), head_length s at h))
