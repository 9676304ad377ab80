-- The heads of a description as bytes, one behind the other (document 02, request 8): a part's head is as long as its tag says,
-- and the parts stand in the order of their heads. So a byte 17 or 19 in a count or a power is no tag. Assumes nothing.
use Rattle.std.specs.Prelude.{Bool, false, cond, List, [], ◌∷◌, ◌++◌, ℕ, zero, suc, ◌+◌, eqb, length, take, drop}
use Rattle.describe_defs.specs.Describe.{count_bytes, array, struct, slice, Tag, code, opens, unknown, tag_of, count_length}

-- the bytes of a head behind its tag
abbrev pub behind_tag : Tag → ℕ
behind_tag code = 0
behind_tag (opens array) = count_length
behind_tag (opens (struct c)) = 2 + count_bytes c
behind_tag (opens slice) = 0
behind_tag unknown = 0

-- the heads of bytes, at most n
unfoldable pub heads_up_to : ℕ → List ℕ → List (List ℕ)
heads_up_to zero s = []
heads_up_to (suc n) [] = []
heads_up_to (suc n) (b ∷ s) = (b ∷ take (behind_tag (tag_of b)) s) ∷ heads_up_to n (drop (behind_tag (tag_of b)) s)

abbrev pub heads_of : List ℕ → List (List ℕ)
heads_of s = heads_up_to (length s) s

-- heads one behind the other
abbrev pub joined : List (List ℕ) → List ℕ
joined [] = []
joined (h ∷ hs) = h ++ joined hs

-- whether a head has this tag, and how many have
abbrev pub has_tag : ℕ → List ℕ → Bool
has_tag tag [] = false
has_tag tag (b ∷ h) = eqb b tag

unfoldable pub tags_among : ℕ → List (List ℕ) → ℕ
tags_among tag [] = 0
tags_among tag (h ∷ hs) = cond (has_tag tag h) 1 0 + tags_among tag hs

-- "the number of its tags"
abbrev pub tags_in : ℕ → List ℕ → ℕ
tags_in tag s = tags_among tag (heads_of s)
