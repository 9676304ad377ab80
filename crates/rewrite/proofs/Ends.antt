-- The ways out of a rewriting. Assumes nothing.
use mathlib.Core.Path.{◌≡◌, refl, sym, ap, subst, ◌∙◌}
use mathlib.Core.Bool.{Bool, true, false, cond}
use mathlib.Core.List.{List, [], ◌∷◌}
use Prim.Native.Nat.{ℕ, ◌+◌, ◌^◌, ◌≤◌, ◌<◌}
use native.Mathlib.Omega.{arith}
use borrow.Author.Tests.{leb-true}
use lib.Dec.{leb}
use lib.ListN.{length, length-append}
use Rattle.util_defs.specs.Placed.{Placed, reached, stopped, go_on}
use Rattle.layout_defs.specs.Layout.{Layout}
use Rattle.scalar.specs.Scalar.{Target}
use Rattle.describe_defs.specs.Describe.{struct_tag, described_for}
use Rattle.describe_defs.proofs.Steps.{not_stopped, reached_one, went}
use Rattle.describe_defs.proofs.Meaning.{accepts}
use Rattle.rewrite_defs.specs.Heads.{heads_of, joined, has_tag, tags_among, tags_in}
use Rattle.rewrite_defs.specs.Rewrite.{Way, longer, shorter, from, counts_fit, rewritten, rewrite_for, bytes_for, filled}
use Rattle.rewrite_defs.specs.Means.{LengthIs, RewriteMeans}
use Rattle.rewrite_defs.proofs.Whole.{AllWhole, described_whole}
use Rattle.rewrite_defs.proofs.Trips.{fits, is_rewritten}
use Rattle.rewrite_defs.proofs.Meaning.{same_stop, rewrite_means}
use Rattle.rewrite.specs.View.{Whole, Read, length_to}

-- a description that is read is whole heads
pub record WasRead (w : ℕ) (target : Target) (s : List ℕ) : Type 0 where
  pub layout : Layout
  pub is : described_for w target s ≡ reached layout

pub was_read : (w : ℕ) (target : Target) (s : List ℕ) → Read (described_for w target s) → WasRead w target s
was_read w target s h = go (described_for w target s) refl h
  where
    go : (p : Placed Layout) → described_for w target s ≡ p → Read p → WasRead w target s
    go (reached l) e h = record { layout = l; is = e }
    go (stopped k i) e h = absurd h

pub read_whole : (w : ℕ) (target : Target) (s : List ℕ) → Read (described_for w target s) → Whole s
read_whole w target s h = let x = was_read w target s h in described_whole w target s x.layout (accepts w target s x.is)

pub is_read : (w : ℕ) (target : Target) (s : List ℕ) {l : Layout} → reached l ≡ described_for w target s → Read (described_for w target s)
is_read w target s e = subst Read e tt

-- no more heads of a tag than bytes
few_tags : (tag : ℕ) (hs : List (List ℕ)) → AllWhole hs → tags_among tag hs ≤ length (joined hs)
unfolding tags_among
few_tags tag [] w = omega arith
few_tags tag ([] ∷ hs) w = absurd w.0
few_tags tag ((b ∷ r) ∷ hs) w = omega (arith, one (has_tag tag (b ∷ r)), few_tags tag hs w.1, length-append r (joined hs))
  where
    one : (p : Bool) → cond p 1 0 ≤ 1
    one true = omega arith
    one false = omega arith

module _ (w : ℕ) (target : Target) (way : Way) (s : List ℕ) (h : Read (described_for w target s)) where
  pub few_turned : {n : ℕ} → reached n ≡ go_on (counts_fit way 0 (heads_of s)) (λ _. reached (tags_in (struct_tag (from way)) s)) → n ≤ length s
  few_turned e =
      let x = went (counts_fit way 0 (heads_of s)) (λ _. reached (tags_in (struct_tag (from way)) s)) (sym e) in
      let p = read_whole w target s h in
      omega (arith, reached_one x.then, few_tags (struct_tag (from way)) (heads_of s) p.0, ap length p.1)

  length_to_lem : (v : Way) (r : List ℕ) → LengthIs v s r → length r ≡ length_to v (length s) (tags_in (struct_tag (from v)) s)
  length_to_lem longer r e = e
  length_to_lem shorter r e = omega (arith, e)

  pub length_result : {n : ℕ} → reached n ≡ go_on (counts_fit way 0 (heads_of s)) (λ _. reached (tags_in (struct_tag (from way)) s))
      → length (rewritten way s) ≡ length_to way (length s) n
  length_result e =
      let x = went (counts_fit way 0 (heads_of s)) (λ _. reached (tags_in (struct_tag (from way)) s)) (sym e) in
      let y = was_read w target s h in
      length_to_lem way (rewritten way s) (is_rewritten w target way s y.layout (accepts w target s y.is) (fits way 0 (heads_of s) x.first)).length_is
      ∙ ap (length_to way (length s)) (reached_one x.then)

  module _ (old : List ℕ) where
    -- what comes back, and what the output holds
    abbrev pub Ends : Placed ℕ → List ℕ → Type 0
    Ends a new = (a ≡ bytes_for w target way s (length old)) × (new ≡ filled (rewrite_for w target way s (length old)) old)

    ends_so : {r : Placed (List ℕ)} → rewrite_for w target way s (length old) ≡ r → Ends (go_on r (λ bs. reached (length bs))) (filled r old)
    ends_so e = (ap (λ (r : Placed (List ℕ)). go_on r (λ bs. reached (length bs))) (sym e), ap (λ (r : Placed (List ℕ)). filled r old) (sym e))

    pub room_of : {n : ℕ} → reached n ≡ go_on (counts_fit way 0 (heads_of s)) (λ _. reached (tags_in (struct_tag (from way)) s))
        → leb (length_to way (length s) n) (length old) ≡ true → length (rewritten way s) ≤ length old
    room_of {n} e f = omega (arith, leb-true (length_to way (length s) n) (length old) f, length_result e)

    pub long_bytes : {n : ℕ} → reached n ≡ go_on (counts_fit way 0 (heads_of s)) (λ _. reached (tags_in (struct_tag (from way)) s))
        → leb (length_to way (length s) n) (length old) ≡ true → way ≡ longer → length old < 2 ^ 64 → length s + n < 2 ^ 64
    long_bytes {n} e f g b = let r = leb-true (length_to way (length s) n) (length old) f in omega (arith, ap (λ (v : Way). length_to v (length s) n) g, r, b)

    pub ends_written : {n m : ℕ} {new : List ℕ} → reached n ≡ go_on (counts_fit way 0 (heads_of s)) (λ _. reached (tags_in (struct_tag (from way)) s))
        → leb (length_to way (length s) n) (length old) ≡ true → m ≡ length_to way (length s) n → new ≡ filled (reached (rewritten way s)) old
        → Ends (reached m) new
    unfolding rewrite_for
    ends_written e f g q =
        let x = went (counts_fit way 0 (heads_of s)) (λ _. reached (tags_in (struct_tag (from way)) s)) (sym e) in
        let y = was_read w target s h in
        let l = length_result e in
        let r : rewrite_for w target way s (length old) ≡ reached (rewritten way s) = rw (y.is, x.first, l, f) in
        let z = ends_so r in
        (ap reached (g ∙ sym l) ∙ z.0, q ∙ z.1)

    pub ends_short : {n : ℕ} → reached n ≡ go_on (counts_fit way 0 (heads_of s)) (λ _. reached (tags_in (struct_tag (from way)) s))
        → leb (length_to way (length s) n) (length old) ≡ false → Ends (stopped 45 0) old
    unfolding rewrite_for
    ends_short e f =
        let x = went (counts_fit way 0 (heads_of s)) (λ _. reached (tags_in (struct_tag (from way)) s)) (sym e) in
        let y = was_read w target s h in
        let l = length_result e in
        let r : rewrite_for w target way s (length old) ≡ stopped 45 0 = rw (y.is, x.first, l, f) in
        ends_so r

    pub ends_above : {k i : ℕ} → stopped k i ≡ go_on (counts_fit way 0 (heads_of s)) (λ _. reached (tags_in (struct_tag (from way)) s)) → Ends (stopped k i) old
    unfolding rewrite_for
    ends_above {k} {i} e =
        let y = was_read w target s h in
        let f = stops (counts_fit way 0 (heads_of s)) (sym e) in
        let r : rewrite_for w target way s (length old) ≡ stopped k i = rw (y.is, f) in
        ends_so r
      where
        stops : (p : Placed (Unit {0})) → go_on p (λ _. reached (tags_in (struct_tag (from way)) s)) ≡ stopped k i → p ≡ stopped k i
        stops (reached x) e = absurd (not_stopped (sym e))
        stops (stopped k' i') e = same_stop e

-- a description that is refused
pub ends_unread : (w : ℕ) (target : Target) (way : Way) (s old : List ℕ) {k i : ℕ} → stopped k i ≡ described_for w target s
    → (stopped k i ≡ bytes_for w target way s (length old)) × (old ≡ filled (rewrite_for w target way s (length old)) old)
unfolding rewrite_for
ends_unread w target way s old e = rw (sym e) (refl, refl)

-- and what that means
pub told : (w : ℕ) (target : Target) (way : Way) (s old : List ℕ) {a : Placed ℕ} {new : List ℕ} → a ≡ bytes_for w target way s (length old)
    → new ≡ filled (rewrite_for w target way s (length old)) old
    → (a ≡ bytes_for w target way s (length old)) × ((new ≡ filled (rewrite_for w target way s (length old)) old) × RewriteMeans w target way s old new a)
told w target way s old {a} {new} e f =
    (e, (f, subst (λ (z : Placed ℕ). RewriteMeans w target way s old new z) (sym e) (subst (λ (z : List ℕ). RewriteMeans w target way s old z (bytes_for w target way s (length old))) (sym f) (rewrite_means w target way s old))))
