-- The steps of reading: what a step that goes on has found, and what it finds. Assumes nothing.
use mathlib.Core.Path.{◌≡◌, refl, sym, ap}
use mathlib.Core.Bool.{Bool, true, false, cond}
use mathlib.Core.List.{List}
use Prim.Native.Nat.{ℕ, ◌+◌, ◌≤◌, ◌<◌}
use native.Mathlib.Omega.{arith}
use borrow.Author.Tests.{lt-ltb, le-leb, ltb-true, leb-true, leb-false, eqb-true, eqb-false}
use lib.Dec.{eqb, ltb, leb}
use lib.ListN.{length, take, drop, get_or}
use Rattle.util_defs.specs.Width.{M}
use Rattle.util_defs.specs.Refusal.{Outcome, answered, refused}
use Rattle.util_defs.specs.Placed.{Placed, reached, stopped, at_place, go_on}
use Rattle.words.specs.Bytes.{value_of}
use Rattle.describe_defs.specs.Describe.{by_one, by_two, struct_tag, array, struct, slice, Tag, code, opens, unknown, tag_of, byte_at, count_at, power_of, power_in, power_at}
use Rattle.describe_defs.specs.Grammar.{IsByte, IsCount, IsPower}

-- a refusal reaches nothing
pub not_stopped : {T : Type 0} {x : T} {k i : ℕ} → stopped k i ≡ reached x → ⊥
not_stopped {T} {x} {k} {i} e = let z : ◌≡◌ {A = ℕ} 0 1 = ap told e in omega arith
  where
    told : Placed T → ℕ
    told (reached x) = 1
    told (stopped k i) = 0

pub reached_one : {T : Type 0} {x y : T} → reached x ≡ reached y → x ≡ y
reached_one {T} {x} {y} e = ap got e
  where
    got : Placed T → T
    got (reached z) = z
    got (stopped n p) = x

-- what reaches an end reached what stands before it
pub record Went {S T : Type 0} (p : Placed S) (f : S → Placed T) (y : T) : Type 0 where
  pub to : S
  pub first : p ≡ reached to
  pub then : f to ≡ reached y

pub went : {S T : Type 0} (p : Placed S) (f : S → Placed T) {y : T} → go_on p f ≡ reached y → Went p f y
went (reached x) f e = record { to = x; first = refl; then = e }
went (stopped k i) f e = absurd (not_stopped e)

pub record Passed {S T : Type 0} (o : Outcome S) (f : S → Placed T) (y : T) : Type 0 where
  pub to : S
  pub first : o ≡ answered to
  pub then : f to ≡ reached y

pub went_at : {S T : Type 0} (i : ℕ) (o : Outcome S) (f : S → Placed T) {y : T} → at_place i o f ≡ reached y → Passed o f y
went_at i (answered x) f e = record { to = x; first = refl; then = e }
went_at i (refused k) f e = absurd (not_stopped e)

-- a test that reaches something passed
pub went_if : {T : Type 0} (b : Bool) (x y : T) (k i : ℕ) → cond b (reached x) (stopped k i) ≡ reached y → (b ≡ true) × (x ≡ y)
went_if true x y k i e = (refl, reached_one e)
went_if false x y k i e = absurd (not_stopped e)

pub passed_if : {T : Type 0} (b : Bool) (o : Placed T) (y : T) (k i : ℕ) → cond b o (stopped k i) ≡ reached y → (b ≡ true) × (o ≡ reached y)
passed_if true o y k i e = (refl, e)
passed_if false o y k i e = absurd (not_stopped e)

-- the byte, the power and the count at a place
pub byte_found : (s : List ℕ) (i : ℕ) {b : ℕ} → byte_at s i ≡ reached b → IsByte s i b
byte_found s i {b} e =
    let x = went_if (ltb i (length s)) (get_or s i 0) b 33 i e in
    record { within = ltb-true i (length s) x.0; is = x.1 }

pub byte_is : (s : List ℕ) (i : ℕ) {b : ℕ} → IsByte s i b → byte_at s i ≡ reached b
byte_is s i h = rw (lt-ltb i (length s) h.within, h.is)

pub power_found : (w : ℕ) (s : List ℕ) (i : ℕ) {a : ℕ} → power_at w s i ≡ reached a → IsPower w s i a
power_found w s i {a} e =
    let x = went (byte_at s i) (power_in w i) e in
    let b = x.to in
    let y = passed_if (leb b 64) (cond (leb (power_of b) (M w)) (reached (power_of b)) (stopped 43 i)) a 34 i x.then in
    let z = went_if (leb (power_of b) (M w)) (power_of b) a 43 i y.1 in
    record { byte = b; at = byte_found s i x.first; most = leb-true b 64 y.0; fits = leb-true (power_of b) (M w) z.0; is = sym z.1 }

pub power_is : (w : ℕ) (s : List ℕ) (i : ℕ) {a : ℕ} → IsPower w s i a → power_at w s i ≡ reached a
power_is w s i h = rw (byte_is s i h.at, le-leb h.byte 64 h.most, le-leb (power_of h.byte) (M w) h.fits, h.is)

pub count_found : (k : ℕ) (s : List ℕ) (i : ℕ) {n : ℕ} → count_at k s i ≡ reached n → IsCount k s i n
count_found k s i {n} e =
    let x = went_if (leb (i + k) (length s)) (value_of (take k (drop i s))) n 33 _ e in
    record { within = leb-true (i + k) (length s) x.0; is = x.1 }

pub count_is : (k : ℕ) (s : List ℕ) (i : ℕ) {n : ℕ} → IsCount k s i n → count_at k s i ≡ reached n
count_is k s i h = rw (le-leb (i + k) (length s) h.within, h.is)

-- what a tag says of its byte
abbrev pub TagMeans : ℕ → Tag → Type 0
TagMeans b code = b ≤ 8
TagMeans b (opens array) = b ≡ 16
TagMeans b (opens (struct c)) = b ≡ struct_tag c
TagMeans b (opens slice) = b ≡ 18
TagMeans b unknown = (8 < b) × ((b ≡ 16 → ⊥) × ((b ≡ 17 → ⊥) × ((b ≡ 18 → ⊥) × (b ≡ 19 → ⊥))))

pub tag_means : (b : ℕ) → TagMeans b (tag_of b)
tag_means b = go (leb b 8) (eqb b 16) (eqb b 17) (eqb b 18) (eqb b 19) refl refl refl refl refl
  where
    go : (p q r t u : Bool) → leb b 8 ≡ p → eqb b 16 ≡ q → eqb b 17 ≡ r → eqb b 18 ≡ t → eqb b 19 ≡ u
        → TagMeans b (cond p code (cond q (opens array) (cond r (opens (struct by_one)) (cond t (opens slice) (cond u (opens (struct by_two)) unknown)))))
    go true q r t u h i j k l = leb-true b 8 h
    go false true r t u h i j k l = eqb-true b 16 i
    go false false true t u h i j k l = eqb-true b 17 j
    go false false false true u h i j k l = eqb-true b 18 k
    go false false false false true h i j k l = eqb-true b 19 l
    go false false false false false h i j k l = (leb-false b 8 h, (eqb-false b 16 i, (eqb-false b 17 j, (eqb-false b 18 k, eqb-false b 19 l))))

pub tag_code : (b : ℕ) → b ≤ 8 → tag_of b ≡ code
tag_code b h = rw (le-leb b 8 h)
