-- What a call on layouts gives at fewer bits, whose greatest number is m, by what it gives at more. Assumes nothing.
use Rattle.std.specs.Prelude.{Bool, cond, ◌&&◌, ℕ, ◌-◌, leb}
use Rattle.util_defs.specs.Refusal.{Outcome, answered, refused}
use Rattle.layout_defs.specs.Layout.{Info, fixed, trailing, Layout}
use Rattle.widths_defs.specs.Within.{limited}

-- what the step adds the place to: a size, or an offset
abbrev pub start_of : Info → ℕ
start_of (fixed s) = s
start_of (trailing t) = t.offset

-- a size, or o and b, at most m
abbrev pub info_within : ℕ → Info → Bool
info_within m (fixed s) = leb s m
info_within m (trailing t) = leb t.offset m && leb t.base m

-- `extend`: 8 where the place of the member passes m, 9 where its size, o or b there does. The place is what the step added
abbrev pub placed_within : ℕ → ℕ → Layout → Outcome Layout
placed_within m place l = cond (leb place m) (cond (info_within m l.info) (answered l) (refused 9)) (refused 8)

abbrev pub step_within : ℕ → Info → Outcome Layout → Outcome Layout
step_within m member (answered l) = placed_within m (start_of l.info - start_of member) l
step_within m member (refused k) = refused k

-- `pad_to_align`: 8 where the new size or base passes m
abbrev pub closed_within : ℕ → Info → Bool
closed_within m (fixed s) = leb s m
closed_within m (trailing t) = leb t.base m

abbrev pub pad_within : ℕ → Outcome Layout → Outcome Layout
pad_within m o = limited 8 (λ l. closed_within m l.info) o
