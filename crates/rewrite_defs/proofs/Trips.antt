-- What a rewriting means, there and back. Assumes nothing.
use mathlib.Core.Path.{◌≡◌, refl, sym, ap, subst, ◌∙◌}
use mathlib.Core.Bool.{Bool, true, false, cond}
use mathlib.Core.List.{List, [], ◌∷◌, ◌++◌, map}
use Prim.Native.Nat.{ℕ, ◌+◌, ◌*◌, ◌≤◌, ◌<◌}
use native.Mathlib.Omega.{arith}
use borrow.Author.Tests.{le-ltb, le-leb, ltb-true, ltb-false, leb-true}
use lib.Dec.{ltb, leb}
use lib.ListN.{length, drop, get_or, length-drop, get_or-append, get_or-eq_default}
use lib.Seq.{drop-length, get_or-append-add}
use Rattle.util_defs.specs.Placed.{reached, stopped, go_on}
use Rattle.layout_defs.specs.Layout.{Layout}
use Rattle.scalar.specs.Scalar.{Target}
use Rattle.words.specs.Bytes.{value_of}
use Rattle.words.proofs.LittleEndian.{AllBytes}
use Rattle.describe_defs.specs.Describe.{struct_tag, described_for}
use Rattle.describe_defs.specs.Grammar.{Describes, Description}
use Rattle.describe_defs.proofs.Steps.{not_stopped, went, went_if}
use Rattle.describe_defs.proofs.Grammar.{reads}
use Rattle.describe_defs.proofs.Meaning.{moved, accepted, accepts}
use Rattle.rewrite_defs.specs.Heads.{heads_of, joined, has_tag, tags_among}
use Rattle.rewrite_defs.specs.Rewrite.{Way, longer, shorter, from, into, back, turned_head, count_above, counts_fit, rewritten, room_for, rewrite_for}
use Rattle.rewrite_defs.specs.Means.{SameStruct, same, Turned, Turns, none, turns, keeps, Fits, Rewritten, LengthIs, ThereAndBack, OneRewriting, SameLayout}
use Rattle.rewrite_defs.proofs.Whole.{AllWhole, heads_of_lem, described_whole}
use Rattle.rewrite_defs.proofs.Same.{described_over}
use Rattle.rewrite_defs.proofs.Turning.{Becomes, turned, kept, becomes, all_whole, all_gone, all_grow, all_turn, none_first, all_back}

-- ---- counts that fit
pub fit_step : (way : Way) (i : ℕ) (h : List ℕ) (hs : List (List ℕ)) → counts_fit way i (h ∷ hs) ≡ cond (count_above way h) (stopped 44 i) (counts_fit way (i + length h) hs)
unfolding counts_fit
fit_step way i h hs = refl

pub fits : (way : Way) (i : ℕ) (hs : List (List ℕ)) → counts_fit way i hs ≡ reached tt → Fits way hs
fits way i [] e = tt
fits way i (h ∷ hs) e = go (count_above way h) (sym (fit_step way i h hs) ∙ e) (λ f. fits way (i + length h) hs f)
  where
    go : (b : Bool) → cond b (stopped 44 i) (counts_fit way (i + length h) hs) ≡ reached tt → (counts_fit way (i + length h) hs ≡ reached tt → Fits way hs) → (b ≡ false) × Fits way hs
    go true e f = absurd (not_stopped e)
    go false e f = (refl, f e)

pub fit_so : (way : Way) (i : ℕ) (hs : List (List ℕ)) → Fits way hs → counts_fit way i hs ≡ reached tt
unfolding counts_fit
fit_so way i [] f = refl
fit_so way i (h ∷ hs) f = rw f.0 (fit_so way (i + length h) hs f.1)

-- ---- the heads of what is rewritten are those turned
pub heads_turned : (way : Way) (hs : List (List ℕ)) → AllWhole hs → Fits way hs → heads_of (joined (map (turned_head way) hs)) ≡ map (turned_head way) hs
heads_turned way hs w f = heads_of_lem (map (turned_head way) hs) (all_whole way hs w f)

-- whole heads that are no bytes are none
no_heads : (hs : List (List ℕ)) → AllWhole hs → joined hs ≡ [] → hs ≡ []
no_heads [] w e = refl
no_heads ([] ∷ hs) w e = absurd w.0
no_heads ((b ∷ r) ∷ hs) w e = let l = ap length e in absurd (omega (arith, l))

module _ (w : ℕ) (target : Target) (way : Way) (s : List ℕ) where
  -- it describes the same layout
  pub same_layout : (l : Layout) → Description w target s l → Fits way (heads_of s) → Description w target (rewritten way s) l
  same_layout l h f =
      let r = rewritten way s in
      let p = described_whole w target s l h in
      let x = described_over way s r w target 16 0 (length s) 0 l h (record { heads = heads_of s; whole = p.0; fit = f; here = p.1; there = refl }) in
      let n : x.rest.heads ≡ [] = no_heads x.rest.heads x.rest.whole (sym x.rest.here ∙ drop-length s) in
      let d : drop x.end r ≡ [] = x.rest.there ∙ ap (λ (hs : List (List ℕ)). joined (map (turned_head way) hs)) n in
      let past = moved w target r 16 0 x.end l (reads w target r 16 0 x.end l x.part) in
      subst (λ (j : ℕ). Describes w target 16 r 0 j l) (omega (arith, past, length-drop x.end r, ap length d)) x.part

  length_so : (v : Way) → AllWhole (heads_of s) → Fits v (heads_of s) → length s ≡ length (joined (heads_of s)) → LengthIs v s (rewritten v s)
  length_so longer p f e = omega (arith, all_grow longer (heads_of s) p f, e)
  length_so shorter p f e = omega (arith, all_grow shorter (heads_of s) p f, e)

  pub is_rewritten : (l : Layout) → Description w target s l → Fits way (heads_of s) → Rewritten w target way s (rewritten way s)
  is_rewritten l h f =
      let p = described_whole w target s l h in
      let e = heads_turned way (heads_of s) p.0 f in
      record {
        every = subst (Turns way (heads_of s)) (sym e) (all_turn way (heads_of s) p.0 f);
        layout = λ m g. same_layout m g f;
        gone = ap (tags_among (struct_tag (from way))) e ∙ all_gone way (heads_of s) p.0 f;
        length_is = length_so way p.0 f (ap length p.1);
      }

  -- what a rewriting that is not refused has found
  pub record Found (m : ℕ) (r : List ℕ) : Type 0 where
    pub layout : Layout
    pub described : described_for w target s ≡ reached layout
    pub fit : Fits way (heads_of s)
    pub is : rewritten way s ≡ r
    pub room : length r ≤ m

  pub found : (m : ℕ) (r : List ℕ) → rewrite_for w target way s m ≡ reached r → Found m r
  unfolding rewrite_for
  found m r e =
      let x = went (described_for w target s) (λ _. go_on (counts_fit way 0 (heads_of s)) (λ _. room_for (rewritten way s) m)) e in
      let y = went (counts_fit way 0 (heads_of s)) (λ _. room_for (rewritten way s) m) x.then in
      let z = went_if (leb (length (rewritten way s)) m) (rewritten way s) r 45 0 y.then in
      record {
        layout = x.to;
        described = x.first;
        fit = fits way 0 (heads_of s) y.first;
        is = z.1;
        room = subst (λ (q : List ℕ). length q ≤ m) z.1 (leb-true (length (rewritten way s)) m z.0);
      }

  pub rewrite_on : (m : ℕ) (l : Layout) → described_for w target s ≡ reached l → Fits way (heads_of s) → length (rewritten way s) ≤ m
      → rewrite_for w target way s m ≡ reached (rewritten way s)
  unfolding rewrite_for
  rewrite_on m l e f h = rw (e, fit_so way 0 (heads_of s) f, le-leb (length (rewritten way s)) m h)

-- "both read as the same layout"
pub both_read : (w : ℕ) (target : Target) (way : Way) → SameLayout w target way
both_read w target way s r m e =
    let x = found w target way s m r e in
    let d = same_layout w target way s x.layout (accepts w target s x.described) x.fit in
    accepted w target r (subst (λ (q : List ℕ). Description w target q x.layout) x.is d) ∙ sym x.described

-- nothing else is a rewriting
turned_tag : (way : Way) (h h' : List ℕ) → Turned way h h' → has_tag (struct_tag (from way)) h ≡ true
turned_tag longer h h' x = go h h' x
  where
    go : (h h' : List ℕ) → SameStruct h h' → has_tag 17 h ≡ true
    go h h' same = refl
turned_tag shorter h h' x = go h' h x
  where
    go : (h h' : List ℕ) → SameStruct h h' → has_tag 19 h' ≡ true
    go h h' same = refl

turned_one : (way : Way) (h h₁ h₂ : List ℕ) → Turned way h h₁ → Turned way h h₂ → h₁ ≡ h₂
turned_one longer h h₁ h₂ x y = go x y
  where
    go : {h h₁ h₂ : List ℕ} → SameStruct h h₁ → SameStruct h h₂ → h₁ ≡ h₂
    go same same = refl
turned_one shorter h h₁ h₂ x y = go x y
  where
    go : {h h₁ h₂ : List ℕ} → SameStruct h₁ h → SameStruct h₂ h → h₁ ≡ h₂
    go same same = refl

not_both : {b : Bool} → b ≡ true → b ≡ false → ⊥
not_both {b} e f = let z : ◌≡◌ {A = ℕ} 1 0 = ap (λ (x : Bool). cond x 1 0) (sym e ∙ f) in omega (arith, z)

pub turns_one : (way : Way) {hs hs₁ hs₂ : List (List ℕ)} → Turns way hs hs₁ → Turns way hs hs₂ → hs₁ ≡ hs₂
turns_one way none none = refl
turns_one way (turns {h = h} {h' = h₁} a x) (turns {h' = h₂} b y) = rw (turned_one way h h₁ h₂ a b, turns_one way x y)
turns_one way (keeps a x) (keeps b y) = rw (turns_one way x y)
turns_one way (turns {h = h} {h' = h'} a x) (keeps b y) = absurd (not_both (turned_tag way h h' a) b)
turns_one way (keeps {h = h} a x) (turns {h' = h'} b y) = absurd (not_both (turned_tag way h h' b) a)

pub one_rewriting : (w : ℕ) (target : Target) (way : Way) → OneRewriting w target way
one_rewriting w target way s r r' l h x y =
    (described_whole w target r l (x.layout l h)).1 ∙ ap joined (turns_one way x.every y.every) ∙ sym (described_whole w target r' l (y.layout l h)).1

-- ---- there and back
longer_fits : (hs : List (List ℕ)) → Fits longer hs
longer_fits [] = tt
longer_fits (h ∷ hs) = (refl, longer_fits hs)

count_of_byte : (a p n : ℕ) → n < 256 → count_above shorter (19 ∷ a ∷ p ∷ n ∷ 0 ∷ []) ≡ false
unfolding value_of
count_of_byte a p n h = le-ltb 255 (n + 256 * (0 + 256 * 0)) (omega arith)

head_fits : {h h' : List ℕ} → Becomes longer h h' → has_tag 19 h ≡ false → get_or h 3 0 < 256 → count_above shorter h' ≡ false
head_fits (turned (same {align = a} {packing = p} {n = n})) e b = count_of_byte a p n b
head_fits (kept f) e b = rw e

all_fit_back : (hs : List (List ℕ)) → AllWhole hs → tags_among 19 hs ≡ 0 → AllBytes (joined hs) → Fits shorter (map (turned_head longer) hs)
all_fit_back [] w e b = tt
all_fit_back (h ∷ hs) w e b =
    let n = none_first 19 h hs e in (
      head_fits (becomes longer h w.0 refl) n.0 (third h (joined hs) b),
      all_fit_back hs w.1 n.1 (λ i. subst (λ (x : ℕ). x < 256) (get_or-append-add h (joined hs) i 0) (b (length h + i))),
    )
  where
    third : (h v : List ℕ) → AllBytes (h ++ v) → get_or h 3 0 < 256
    third h v b = go (ltb 3 (length h)) refl
      where
        go : (t : Bool) → ltb 3 (length h) ≡ t → get_or h 3 0 < 256
        go true e = subst (λ (x : ℕ). x < 256) (get_or-append h v 0 3 (ltb-true 3 (length h) e)) (b 3)
        go false e = rw (get_or-eq_default h 0 {n = 3} (ltb-false 3 (length h) e)) (omega arith)

back_fits : (way : Way) (hs : List (List ℕ)) → AllWhole hs → tags_among (struct_tag (into way)) hs ≡ 0 → AllBytes (joined hs) → Fits (back way) (map (turned_head way) hs)
back_fits longer hs w e b = all_fit_back hs w e b
back_fits shorter hs w e b = longer_fits (map (turned_head shorter) hs)

pub there_and_back : (w : ℕ) (target : Target) (way : Way) → ThereAndBack w target way
there_and_back w target way s r m m' b n e h =
    let x = found w target way s m r e in
    let p = described_whole w target s x.layout (accepts w target s x.described) in
    let q : heads_of r ≡ map (turned_head way) (heads_of s) = ap heads_of (sym x.is) ∙ heads_turned way (heads_of s) p.0 x.fit in
    let z : rewritten (back way) r ≡ s =
    ap (λ (hs : List (List ℕ)). joined (map (turned_head (back way)) hs)) q ∙ ap joined (all_back way (heads_of s) p.0 x.fit n) ∙ sym p.1 in
    let f : Fits (back way) (heads_of r) = subst (Fits (back way)) (sym q) (back_fits way (heads_of s) p.0 n (subst AllBytes p.1 b)) in
    rewrite_on w target (back way) r m' x.layout (both_read w target way s r m e ∙ x.described) f (subst (λ (y : List ℕ). length y ≤ m') (sym z) h) ∙ ap reached z
