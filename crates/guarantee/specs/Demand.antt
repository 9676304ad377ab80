-- Demand 3, the conversion guarantee: an accepted conversion loses no byte, and casts after it grant what they must. Assumes
-- nothing.
use Rattle.std.specs.Prelude.{◌≡◌, ℕ, ◌+◌, ◌%◌, ◌≤◌}
use Rattle.util_defs.specs.Width.{M}
use Rattle.util_defs.specs.Refusal.{Outcome, answered, refused, None}
use Rattle.layout_defs.specs.Layout.{Layout, IsCount, size_in, layout_causes, FitsWidth}
use Rattle.cast_defs.specs.Cast.{prefix, Greatest, Grant, cast_for}
use Rattle.shift_defs.specs.Match.{Comparison}
use Rattle.convert_defs.specs.Convert.{Params, Converts, compute_for, converted, metadata_for}

-- what the calls gave of which demand 3 speaks: the conversion of one layout to another, the count that n elements become, and
-- two prefix casts of the target
pub record Answers : Type 0 where
  pub computed : Outcome Params
  pub count : Outcome ℕ
  pub first : Outcome Grant
  pub second : Outcome Grant

-- document 01's rules accept the conversion q from s to t: neither layout is refused, and the rules give it
pub record Accepts (w : ℕ) (same : Comparison) (s t : Layout) (q : Params) : Type 0 where
  pub source : None (layout_causes w s)
  pub target : None (layout_causes w t)
  pub converts : Converts w same s t q

-- len bytes at addr hold n elements of s and are aligned for t
pub record Hold (w : ℕ) (s t : Layout) (n addr len : ℕ) : Type 0 where
  pub size : size_in w s.info n ≤ len
  pub aligned : addr % t.align ≡ 0
  pub within : addr + len ≤ M w

-- a prefix cast over len bytes is granted the greatest count, split after its size, and that is no lower than least
pub record CastKeeps (w : ℕ) (t : Layout) (len least : ℕ) (o : Outcome Grant) : Type 0 where
  pub count : ℕ
  pub outcome : o ≡ answered (record { count = count; split = size_in w t.info count })
  pub greatest : Greatest w t.info len count
  pub keeps : least ≤ count

-- what is kept of n elements of s, converted by q to t: the count comes back, its size is the old one, and a prefix cast over len
-- bytes that hold them grants no fewer, nor over more bytes fewer than that
pub record Kept (w : ℕ) (s t : Layout) (q : Params) (n addr len more : ℕ) (r : Answers) : Type 0 where
  pub accepted : r.computed ≡ answered q
  pub fits : converted q n ≤ M w
  pub back : r.count ≡ answered (converted q n)
  pub count : IsCount t.info (converted q n)
  pub size : size_in w t.info (converted q n) ≡ size_in w s.info n
  pub first : Hold w s t n addr len → CastKeeps w t len (converted q n) r.first
  pub second : (h : Hold w s t n addr len) → len ≤ more → addr + more ≤ M w → CastKeeps w t more (first h).count r.second

-- demand 3 of what the calls gave: wherever the rules accept the conversion, and the count has a size under the first layout
-- that w
-- bits hold
abbrev pub Demand3Of : ℕ → Comparison → Layout → Layout → (n addr len more : ℕ) → Answers → Type 0
Demand3Of w same s t n addr len more r =
    (q : Params) → Accepts w same s t q → IsCount s.info n → size_in w s.info n ≤ M w → Kept w s t q n addr len more r

-- the count that comes back for what the conversion gave: its refusal is passed on
abbrev pub count_after : ℕ → Outcome Params → ℕ → Outcome ℕ
count_after w (answered q) n = metadata_for w q n
count_after w (refused k) n = refused k

-- the answers as they are defined
abbrev pub answers_of : ℕ → Comparison → Layout → Layout → (n addr len more : ℕ) → Answers
answers_of w same s t n addr len more = record {
  computed = compute_for w same s t;
  count = count_after w (compute_for w same s t) n;
  first = cast_for w t prefix addr len;
  second = cast_for w t prefix addr more;
}

-- demand 3: so it is of these, whatever two layouts, whose numbers w bits hold, and whatever count, address and lengths are
-- handed over
abbrev pub Demand3 : ℕ → Comparison → Type 0
Demand3 w same =
    (s t : Layout) (n addr len more : ℕ) → FitsWidth w s → FitsWidth w t
    → Demand3Of w same s t n addr len more (answers_of w same s t n addr len more)
