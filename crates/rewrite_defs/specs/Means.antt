-- What a rewriting means (document 02, request 8), in the paper's words. Assumes nothing.
use Rattle.std.specs.Prelude.{◌≡◌, true, false, List, [], ◌∷◌, ◌++◌, ℕ, ◌+◌, ◌≤◌, ◌<◌, length, drop}
use Rattle.util_defs.specs.Placed.{Placed, reached, stopped}
use Rattle.layout_defs.specs.Layout.{Layout}
use Rattle.scalar.specs.Scalar.{Target}
use Rattle.words.proofs.LittleEndian.{AllBytes}
use Rattle.describe_defs.specs.Describe.{struct_tag, described_for}
use Rattle.describe_defs.specs.Grammar.{Description}
use Rattle.rewrite_defs.specs.Heads.{heads_of, has_tag, joined, tags_in}
use Rattle.rewrite_defs.specs.Rewrite.{Way, longer, shorter, from, into, back, count_above, rewritten}
use Rattle.rewrite_defs.specs.Rewrite.{rewrite_for, bytes_for, filled}

-- a 17 and the 19 that says the same: the same alignment, packing and count
pub data SameStruct : List ℕ → List ℕ → Type 0 where
  same : {align packing n : ℕ} → SameStruct (17 ∷ align ∷ packing ∷ n ∷ []) (19 ∷ align ∷ packing ∷ n ∷ 0 ∷ [])

-- a head turned the one way is turned back the other
abbrev pub Turned : Way → List ℕ → List ℕ → Type 0
Turned longer h h' = SameStruct h h'
Turned shorter h h' = SameStruct h' h

-- head by head: "turns every 17 into 19, or every 19 into 17"; all others stay
pub data Turns (way : Way) : List (List ℕ) → List (List ℕ) → Type 0 where
  none : Turns way [] []
  turns : {h h' : List ℕ} {hs hs' : List (List ℕ)} → Turned way h h' → Turns way hs hs' → Turns way (h ∷ hs) (h' ∷ hs')
  keeps : {h : List ℕ} {hs hs' : List (List ℕ)} → has_tag (struct_tag (from way)) h ≡ false → Turns way hs hs'
      → Turns way (h ∷ hs) (h ∷ hs')

-- "the length is the old one plus the number of its tags 17", less the number of its tags 19
abbrev pub LengthIs : Way → List ℕ → List ℕ → Type 0
LengthIs longer s r = length r ≡ length s + tags_in 17 s
LengthIs shorter s r = length r + tags_in 19 s ≡ length s

-- r is s rewritten
pub record Rewritten (w : ℕ) (target : Target) (way : Way) (s r : List ℕ) : Type 0 where
  pub every : Turns way (heads_of s) (heads_of r)
  pub layout : (l : Layout) → Description w target s l → Description w target r l
  pub gone : tags_in (struct_tag (from way)) r ≡ 0
  pub length_is : LengthIs way s r

-- each of these heads has a count that fits
abbrev pub Fits : Way → List (List ℕ) → Type 0
Fits way [] = Unit {0}
Fits way (h ∷ hs) = (count_above way h ≡ false) × Fits way hs

-- "at the tag, when the way back meets a count above 255": the first such head stands at i
pub record FirstAbove (way : Way) (s : List ℕ) (i : ℕ) : Type 0 where
  pub before : List (List ℕ)
  pub head : List ℕ
  pub after : List (List ℕ)
  pub heads : heads_of s ≡ before ++ head ∷ after
  pub place : i ≡ length (joined before)
  pub above : count_above way head ≡ true
  pub fit : Fits way before

-- why a rewriting into m bytes is refused: "A description that the reader refuses is refused alike, first; then 44, .. then 45,
-- at 0, when the output is too short"
pub data Refused (w : ℕ) (target : Target) (way : Way) (s : List ℕ) (m : ℕ) : ℕ → ℕ → Type 0 where
  unread : {k i : ℕ} → described_for w target s ≡ stopped k i → Refused w target way s m k i
  above : (l : Layout) {i : ℕ} → Description w target s l → FirstAbove way s i → Refused w target way s m 44 i
  no_room : (l : Layout) → Description w target s l → Fits way (heads_of s) → m < length (rewritten way s)
      → Refused w target way s m 45 0

-- a description whose counts fit and whose result has room: the output begins with it rewritten, n bytes, and is as it was
-- behind them
pub record Written (w : ℕ) (target : Target) (way : Way) (s old new : List ℕ) (n : ℕ) : Type 0 where
  pub layout : Layout
  pub described : Description w target s layout
  pub fit : Fits way (heads_of s)
  pub result : List ℕ
  pub room : length result ≤ length old
  pub is : Rewritten w target way s result
  pub count : n ≡ length result
  pub bytes : new ≡ result ++ drop n old

abbrev pub RewriteMeans : ℕ → Target → Way → List ℕ → List ℕ → List ℕ → Placed ℕ → Type 0
RewriteMeans w target way s old new (reached n) = Written w target way s old new n
RewriteMeans w target way s old new (stopped k i) = Refused w target way s (length old) k i × (new ≡ old)

-- "a description without 19 goes there and back to the same bytes", and one without 17 likewise
abbrev pub ThereAndBack : ℕ → Target → Way → Type 0
ThereAndBack w target way =
    (s r : List ℕ) (m m' : ℕ) → AllBytes s → tags_in (struct_tag (into way)) s ≡ 0 → rewrite_for w target way s m ≡ reached r
    → length s ≤ m' → rewrite_for w target (back way) r m' ≡ reached s

-- nothing else is what a rewriting means
abbrev pub OneAnswer : ℕ → Target → Way → Type 0
OneAnswer w target way =
    (s old new : List ℕ) (a : Placed ℕ) → RewriteMeans w target way s old new a
    → (a ≡ bytes_for w target way s (length old)) × (new ≡ filled (rewrite_for w target way s (length old)) old)

-- nothing else is a rewriting of a description
abbrev pub OneRewriting : ℕ → Target → Way → Type 0
OneRewriting w target way =
    (s r r' : List ℕ) (l : Layout) → Description w target s l → Rewritten w target way s r → Rewritten w target way s r' → r ≡ r'

-- "both read as the same layout"
abbrev pub SameLayout : ℕ → Target → Way → Type 0
SameLayout w target way =
    (s r : List ℕ) (m : ℕ) → rewrite_for w target way s m ≡ reached r → described_for w target r ≡ described_for w target s
