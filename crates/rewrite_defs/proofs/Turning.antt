-- Heads that are turned: whole, none of the old tag, so many bytes more or fewer, and turned back the same. Assumes nothing.
use mathlib.Core.Path.{◌≡◌, refl}
use mathlib.Core.Bool.{Bool, true, false, cond}
use mathlib.Core.List.{List, [], ◌∷◌, ◌++◌, map}
use Prim.Native.Nat.{ℕ, ◌+◌, ◌*◌}
use native.Mathlib.Omega.{arith}
use borrow.Author.Tests.{eqb-true, ltb-false}
use lib.Dec.{eqb, ltb}
use lib.ListN.{length, take, length-append}
use Rattle.words.specs.Bytes.{value_of}
use Rattle.describe_defs.specs.Describe.{struct_tag}
use Rattle.rewrite_defs.specs.Heads.{has_tag, joined, tags_among}
use Rattle.rewrite_defs.specs.Rewrite.{Way, longer, shorter, from, into, back, turned_head, count_above}
use Rattle.rewrite_defs.specs.Means.{same, Turned, Turns, none, turns, keeps, Fits}
use Rattle.rewrite_defs.proofs.Whole.{IsWhole, AllWhole}

-- what becomes of a head, by whether it is turned: its statement need hold only of a struct of the old tag in its shape, and of a
-- head that is kept
pub data Becomes (way : Way) : List ℕ → List ℕ → Type 0 where
  turned : {h h' : List ℕ} → Turned way h h' → Becomes way h h'
  kept : {h : List ℕ} → has_tag (struct_tag (from way)) h ≡ false → Becomes way h h

longer_becomes : (b : ℕ) (r : List ℕ) → IsWhole (b ∷ r) → (p : Bool) → eqb b 17 ≡ p → Becomes longer (b ∷ r) (turned_head longer (b ∷ r))
longer_becomes b r w false e = rw e (kept {h = b ∷ r} e)
longer_becomes b r w true e = let q = eqb-true b 17 e in rw q (go r (rw q at w))
  where
    go : (r : List ℕ) → length r ≡ 3 → Becomes longer (17 ∷ r) (19 ∷ r ++ (0 ∷ []))
    go (a ∷ p ∷ n ∷ []) l = turned same
    go [] l = absurd (omega arith)
    go (a ∷ []) l = absurd (omega arith)
    go (a ∷ p ∷ []) l = absurd (omega arith)
    go (a ∷ p ∷ n ∷ x ∷ r) l = absurd (omega arith)

-- a count of two bytes that is at most 255 has a high byte of 0
high_none : (n m : ℕ) → ltb 255 (value_of (n ∷ m ∷ [])) ≡ false → m ≡ 0
unfolding value_of
high_none n m f = let b = ltb-false 255 (n + 256 * (m + 256 * 0)) f in omega (arith, b)

shorter_becomes : (b : ℕ) (r : List ℕ) → IsWhole (b ∷ r) → count_above shorter (b ∷ r) ≡ false → (p : Bool) → eqb b 19 ≡ p
    → Becomes shorter (b ∷ r) (turned_head shorter (b ∷ r))
shorter_becomes b r w f false e = rw e (kept {h = b ∷ r} e)
shorter_becomes b r w f true e = let q = eqb-true b 19 e in rw q (go r (rw q at w) (rw q at f))
  where
    go : (r : List ℕ) → length r ≡ 4 → count_above shorter (19 ∷ r) ≡ false → Becomes shorter (19 ∷ r) (17 ∷ take 3 r)
    go (a ∷ p ∷ n ∷ m ∷ []) l f = let z = high_none n m f in rw z (turned same)
    go [] l f = absurd (omega arith)
    go (a ∷ []) l f = absurd (omega arith)
    go (a ∷ p ∷ []) l f = absurd (omega arith)
    go (a ∷ p ∷ n ∷ []) l f = absurd (omega arith)
    go (a ∷ p ∷ n ∷ m ∷ x ∷ r) l f = absurd (omega arith)

pub becomes : (way : Way) (h : List ℕ) → IsWhole h → count_above way h ≡ false → Becomes way h (turned_head way h)
becomes way [] w f = absurd w
becomes longer (b ∷ r) w f = longer_becomes b r w (eqb b 17) refl
becomes shorter (b ∷ r) w f = shorter_becomes b r w f (eqb b 19) refl

-- ---- one head
head_whole : (way : Way) {h h' : List ℕ} → Becomes way h h' → IsWhole h → IsWhole h'
head_whole longer (turned same) w = refl
head_whole shorter (turned same) w = refl
head_whole way (kept e) w = w

head_gone : (way : Way) {h h' : List ℕ} → Becomes way h h' → has_tag (struct_tag (from way)) h' ≡ false
head_gone longer (turned same) = refl
head_gone shorter (turned same) = refl
head_gone way (kept e) = e

-- how many tags of a kind it has, 0 or 1
abbrev pub tag_count : ℕ → List ℕ → ℕ
tag_count tag h = cond (has_tag tag h) 1 0

abbrev pub Grows : Way → ℕ → ℕ → ℕ → Type 0
Grows longer old new tags = new ≡ old + tags
Grows shorter old new tags = new + tags ≡ old

head_grows : (way : Way) {h h' : List ℕ} → Becomes way h h' → Grows way (length h) (length h') (tag_count (struct_tag (from way)) h)
head_grows longer (turned same) = refl
head_grows shorter (turned same) = refl
head_grows longer (kept {h = h} e) = rw e (omega arith)
head_grows shorter (kept {h = h} e) = rw e (omega arith)

head_back : (way : Way) {h h' : List ℕ} → Becomes way h h' → has_tag (struct_tag (into way)) h ≡ false → turned_head (back way) h' ≡ h
head_back longer (turned same) f = refl
head_back shorter (turned same) f = refl
head_back longer (kept e) f = rw f
head_back shorter (kept e) f = rw f

-- ---- all of them
pub all_whole : (way : Way) (hs : List (List ℕ)) → AllWhole hs → Fits way hs → AllWhole (map (turned_head way) hs)
all_whole way [] w f = tt
all_whole way (h ∷ hs) w f = (head_whole way (becomes way h w.0 f.0) w.0, all_whole way hs w.1 f.1)

pub all_gone : (way : Way) (hs : List (List ℕ)) → AllWhole hs → Fits way hs → tags_among (struct_tag (from way)) (map (turned_head way) hs) ≡ 0
unfolding tags_among
all_gone way [] w f = refl
all_gone way (h ∷ hs) w f = rw (head_gone way (becomes way h w.0 f.0), all_gone way hs w.1 f.1) refl

pub all_grow : (way : Way) (hs : List (List ℕ)) → AllWhole hs → Fits way hs
    → Grows way (length (joined hs)) (length (joined (map (turned_head way) hs))) (tags_among (struct_tag (from way)) hs)
unfolding tags_among
all_grow longer [] w f = refl
all_grow shorter [] w f = refl
all_grow longer (h ∷ hs) w f =
    omega (arith, head_grows longer (becomes longer h w.0 f.0), all_grow longer hs w.1 f.1, length-append h (joined hs), length-append (turned_head longer h) (joined (map (turned_head longer) hs)))
all_grow shorter (h ∷ hs) w f =
    omega (arith, head_grows shorter (becomes shorter h w.0 f.0), all_grow shorter hs w.1 f.1, length-append h (joined hs), length-append (turned_head shorter h) (joined (map (turned_head shorter) hs)))

pub all_turn : (way : Way) (hs : List (List ℕ)) → AllWhole hs → Fits way hs → Turns way hs (map (turned_head way) hs)
all_turn way [] w f = none
all_turn way (h ∷ hs) w f = go (turned_head way h) (becomes way h w.0 f.0) (all_turn way hs w.1 f.1)
  where
    go : (h' : List ℕ) → Becomes way h h' → Turns way hs (map (turned_head way) hs) → Turns way (h ∷ hs) (h' ∷ map (turned_head way) hs)
    go h' (turned x) y = turns x y
    go h' (kept e) y = keeps e y

-- none of a tag among them: not of the first, nor of the others
pub none_first : (tag : ℕ) (h : List ℕ) (hs : List (List ℕ)) → tags_among tag (h ∷ hs) ≡ 0 → (has_tag tag h ≡ false) × (tags_among tag hs ≡ 0)
unfolding tags_among
none_first tag h hs e = go (has_tag tag h) e
  where
    go : (b : Bool) → cond b 1 0 + tags_among tag hs ≡ 0 → (b ≡ false) × (tags_among tag hs ≡ 0)
    go false e = (refl, omega arith)
    go true e = absurd (omega arith)

pub all_back : (way : Way) (hs : List (List ℕ)) → AllWhole hs → Fits way hs → tags_among (struct_tag (into way)) hs ≡ 0
    → map (turned_head (back way)) (map (turned_head way) hs) ≡ hs
all_back way [] w f e = refl
all_back way (h ∷ hs) w f e =
    let n = none_first (struct_tag (into way)) h hs e in
    rw (head_back way (becomes way h w.0 f.0) n.0, all_back way hs w.1 f.1 n.1)
