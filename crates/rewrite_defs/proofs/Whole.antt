-- The bytes of a description are its heads, one behind the other. Assumes nothing.
use mathlib.Core.Path.{◌≡◌, refl, sym, ap, subst, ◌∙◌}
use mathlib.Core.List.{List, [], ◌∷◌, ◌++◌}
use Prim.Native.Nat.{ℕ, zero, suc, ◌+◌, ◌≤◌}
use native.Mathlib.Omega.{arith}
use lib.ListN.{length, take, drop, get_or, length-append, length-drop, take-append-drop}
use lib.Seq.{drop-cons, drop-drop, length-take-le, take_at, drop_at, drop-length}
use Rattle.layout_defs.specs.Layout.{Layout}
use Rattle.scalar.specs.Scalar.{Target}
use Rattle.describe_defs.specs.Describe.{by_one, by_two, tag_of}
use Rattle.describe_defs.specs.Grammar.{Stands, IsByte, Run, ScalarIs, a_code, PartIs, a_scalar, an_array, a_struct, a_slice, Describes, Description}
use Rattle.describe_defs.specs.Grammar.{none, one}
use Rattle.describe_defs.proofs.Steps.{tag_code}
use Rattle.rewrite_defs.specs.Heads.{behind_tag, heads_up_to, heads_of, joined}

-- a head is whole: as long as its tag says
abbrev pub IsWhole : List ℕ → Type 0
IsWhole [] = ⊥
IsWhole (b ∷ h) = length h ≡ behind_tag (tag_of b)

abbrev pub AllWhole : List (List ℕ) → Type 0
AllWhole [] = Unit {0}
AllWhole (h ∷ hs) = IsWhole h × AllWhole hs

-- whole heads that are joined are found again
pub heads_found : (n : ℕ) (hs : List (List ℕ)) → AllWhole hs → length (joined hs) ≤ n → heads_up_to n (joined hs) ≡ hs
unfolding heads_up_to
heads_found zero [] w h = refl
heads_found (suc n) [] w h = refl
heads_found n ([] ∷ hs) w h = absurd w.0
heads_found zero ((b ∷ r) ∷ hs) w h = absurd (omega arith)
heads_found (suc n) ((b ∷ r) ∷ hs) w h =
    let e = take_at r (joined hs) (behind_tag (tag_of b)) w.0 in
    let f = drop_at r (joined hs) (behind_tag (tag_of b)) w.0 in
    let g = heads_found n hs w.1 (omega (arith, h, length-append r (joined hs))) in
    rw (e, f, g)

pub heads_of_lem : (hs : List (List ℕ)) → AllWhole hs → heads_of (joined hs) ≡ hs
heads_of_lem hs w = heads_found (length (joined hs)) hs w (omega arith)

-- from a place on the bytes are whole heads
pub record From (s : List ℕ) (t : ℕ) : Type 0 where
  pub heads : List (List ℕ)
  pub whole : AllWhole heads
  pub is : drop t s ≡ joined heads

whole_head : (s : List ℕ) (t k : ℕ) → t + suc k ≤ length s → k ≡ behind_tag (tag_of (get_or s t 0)) → IsWhole (take (suc k) (drop t s))
whole_head s t k h e =
    rw (drop-cons s t 0 (omega arith)) (length-take-le k (drop (suc t) s) (omega (arith, length-drop (suc t) s)) ∙ e)

pub head_before : (s : List ℕ) (t k : ℕ) → t + suc k ≤ length s → k ≡ behind_tag (tag_of (get_or s t 0)) → From s (t + suc k) → From s t
head_before s t k h e f = record {
  heads = take (suc k) (drop t s) ∷ f.heads;
  whole = (whole_head s t k h e, f.whole);
  is = sym (take-append-drop (suc k) (drop t s)) ∙ ap (λ (v : List ℕ). take (suc k) (drop t s) ++ v) (drop-drop (suc k) t s ∙ f.is);
}

-- a head by the byte of its tag
by_byte : (s : List ℕ) (t k b : ℕ) → IsByte s t b → k ≡ behind_tag (tag_of b) → t + suc k ≤ length s → From s (t + suc k) → From s t
by_byte s t k b h e l f = head_before s t k l (e ∙ ap (λ (x : ℕ). behind_tag (tag_of x)) (sym h.is)) f

-- what is read before whole heads is whole heads
abbrev Back : List ℕ → Stands → Type 0
Back s Inner = (i j : ℕ) (m : Layout) → Inner i j m → From s j → From s i

at_place : (s : List ℕ) {i j : ℕ} → i ≡ j → From s i → From s j
at_place s e f = subst (From s) e f

scalar_back : (target : Target) (s : List ℕ) {i j : ℕ} {l : Layout} → ScalarIs target s i j l → From s j → From s i
scalar_back target s (a_code {t = t} {b = b} h g) f = by_byte s t 0 b h (rw (tag_code b g)) (omega (arith, h.within)) (at_place s (omega arith) f)

run_back : (s : List ℕ) (Inner : Stands) → Back s Inner → {i j : ℕ} {ms : List Layout} → Run Inner i j ms → From s j → From s i
run_back s Inner b none f = f
run_back s Inner b (one {i = i} {j = j} {m = m} p r) f = b i j m p (run_back s Inner b r f)

part_back : (w : ℕ) (target : Target) (s : List ℕ) (Inner : Stands) → Back s Inner → {i j : ℕ} {l : Layout} → PartIs w target s Inner i j l → From s j → From s i
part_back w target s Inner b (a_scalar h) f = scalar_back target s h f
part_back w target s Inner b (an_array {t = t} {j = j} {m = m} h c q e) f =
    by_byte s t 4 16 h refl (omega (arith, c.within)) (at_place s (omega arith) (b (t + 1 + 4) j m q f))
part_back w target s Inner b (a_struct {t = t} {c = by_one} h r e) f =
    by_byte s t 3 17 h.tag refl (omega (arith, h.count.within)) (at_place s (omega arith) (run_back s Inner b r f))
part_back w target s Inner b (a_struct {t = t} {c = by_two} h r e) f =
    by_byte s t 4 19 h.tag refl (omega (arith, h.count.within)) (at_place s (omega arith) (run_back s Inner b r f))
part_back w target s Inner b (a_slice {t = t} {j = j} {m = m} h q e) f =
    by_byte s t 0 18 h refl (omega (arith, h.within)) (b (t + 1) j m q f)

described_back : (w : ℕ) (target : Target) (s : List ℕ) (d : ℕ) → Back s (Describes w target d s)
unfolding Describes
described_back w target s zero i j m h f = scalar_back target s h f
described_back w target s (suc d) i j m h f = part_back w target s (Describes w target d s) (described_back w target s d) h f

-- a description is whole heads, and those are its heads
pub all_heads : (w : ℕ) (target : Target) (s : List ℕ) (l : Layout) → Description w target s l → From s 0
all_heads w target s l h = described_back w target s 16 0 (length s) l h (record { heads = []; whole = tt; is = drop-length s })

pub heads_are : (s : List ℕ) (f : From s 0) → heads_of s ≡ f.heads
heads_are s f = ap heads_of f.is ∙ heads_of_lem f.heads f.whole

pub described_whole : (w : ℕ) (target : Target) (s : List ℕ) (l : Layout) → Description w target s l → AllWhole (heads_of s) × (s ≡ joined (heads_of s))
described_whole w target s l h =
    let f = all_heads w target s l h in
    let e = heads_are s f in (
      subst AllWhole (sym e) f.whole,
      f.is ∙ ap joined (sym e),
    )
