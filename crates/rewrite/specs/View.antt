-- What the answers of this crate are, over numbers. Assumes nothing.
use Rattle.std.specs.Prelude.{Result}
use Rattle.util.specs.View.{placed_says}
use Rattle.util.specs.declared.refusal.RefusedAt.{RefusedAt}
use Rattle.rewrite.specs.declared.Way as Declared
use Rattle.rewrite.specs.declared.Way.TheVariants as WayIs
use Rattle.std.specs.Prelude.{◌≡◌, List, [], ◌∷◌, ◌++◌, ℕ, ◌+◌, ◌-◌, ◌≤◌, ◌<◌, length, take, drop, get_or}
use Rattle.util_defs.specs.Placed.{Placed, reached, stopped}
use Rattle.layout_defs.specs.Layout.{Layout}
use Rattle.describe_defs.specs.Describe.{tag_of}
use Rattle.rewrite_defs.specs.Heads.{behind_tag, heads_of, joined}
use Rattle.rewrite_defs.specs.Rewrite.{Way, longer, shorter}
use Rattle.rewrite_defs.proofs.Whole.{AllWhole}

abbrev pub way_of : Declared.Way → Way
way_of WayIs.Longer = longer
way_of WayIs.Shorter = shorter

-- the head at a place
abbrev pub head_at : List ℕ → ℕ → List ℕ
head_at s i = take (1 + behind_tag (tag_of (get_or s i 0))) (drop i s)

-- it stands within the bytes
abbrev pub HeadIn : List ℕ → ℕ → Type 0
HeadIn s i = (i < length s) × (i + (1 + behind_tag (tag_of (get_or s i 0))) ≤ length s)

-- a struct's tag before what stands behind another's, and the head that is put for one that is turned
abbrev pub tagged : ℕ → List ℕ → ℕ → List ℕ
tagged tag s i = tag ∷ get_or s (i + 1) 0 ∷ get_or s (i + 2) 0 ∷ get_or s (i + 3) 0 ∷ []

abbrev pub struct_put : Way → List ℕ → ℕ → List ℕ
struct_put longer s i = tagged 19 s i ++ (0 ∷ [])
struct_put shorter s i = tagged 17 s i

-- the bytes are whole heads
abbrev pub Whole : List ℕ → Type 0
Whole s = AllWhole (heads_of s) × (s ≡ joined (heads_of s))

-- the description was read
abbrev pub Read : Placed Layout → Type 0
Read (reached l) = Unit {0}
Read (stopped k i) = ⊥

-- the length of the result, where so many heads are turned
abbrev pub length_to : Way → ℕ → ℕ → ℕ
length_to longer len turned = len + turned
length_to shorter len turned = len - turned

abbrev pub turned_says : Result ℕ (RefusedAt ℕ) → Placed ℕ
turned_says = placed_says (λ n. n)

abbrev pub rewrite_says : Result ℕ (RefusedAt ℕ) → Placed ℕ
rewrite_says = placed_says (λ n. n)
