-- Worked rewritings. Assumes nothing.
use mathlib.Core.Path.{◌≡◌, refl}
use mathlib.Core.List.{[], ◌∷◌}
use Rattle.util_defs.specs.Placed.{reached, stopped}
use Rattle.words.specs.Bytes.{value_of}
use Rattle.rewrite_defs.specs.Heads.{heads_up_to, tags_among, tags_in}
use Rattle.rewrite_defs.specs.Rewrite.{longer, shorter, counts_fit, rewritten}

-- an array of 17 u8 in a struct, whose alignment is 2^16: only the first 17 is a tag
in_count : rewritten longer (17 ∷ 17 ∷ 0 ∷ 1 ∷ 16 ∷ 17 ∷ 19 ∷ 0 ∷ 0 ∷ 0 ∷ []) ≡ 19 ∷ 17 ∷ 0 ∷ 1 ∷ 0 ∷ 16 ∷ 17 ∷ 19 ∷ 0 ∷ 0 ∷ 0 ∷ []
unfolding heads_up_to
in_count = refl

and_back : rewritten shorter (19 ∷ 17 ∷ 0 ∷ 1 ∷ 0 ∷ 16 ∷ 17 ∷ 19 ∷ 0 ∷ 0 ∷ 0 ∷ []) ≡ 17 ∷ 17 ∷ 0 ∷ 1 ∷ 16 ∷ 17 ∷ 19 ∷ 0 ∷ 0 ∷ 0 ∷ []
unfolding heads_up_to
and_back = refl

one_tag : tags_in 17 (17 ∷ 17 ∷ 0 ∷ 1 ∷ 16 ∷ 17 ∷ 19 ∷ 0 ∷ 0 ∷ 0 ∷ []) ≡ 1
unfolding heads_up_to tags_among
one_tag = refl

-- two counts above 255: the lowest tag; 255 fits
lowest : counts_fit shorter 0 ((18 ∷ []) ∷ (19 ∷ 0 ∷ 0 ∷ 0 ∷ 1 ∷ []) ∷ (19 ∷ 0 ∷ 0 ∷ 44 ∷ 1 ∷ []) ∷ []) ≡ stopped 44 1
unfolding counts_fit value_of
lowest = refl

fits_255 : counts_fit shorter 0 ((19 ∷ 0 ∷ 0 ∷ 255 ∷ 0 ∷ []) ∷ []) ≡ reached tt
unfolding counts_fit value_of
fits_255 = refl
