-- Arrays and slices of a layout (document 02, request 4; the Reference's rules layout.array and layout.slice). Assumes nothing.
use Rattle.std.specs.Prelude.{List, [], ◌∷◌, ◌++◌, ℕ, ◌*◌, ◌<◌, ltb}
use Rattle.util_defs.specs.Width.{M}
use Rattle.util_defs.specs.Refusal.{Outcome, Cause, unless}
use Rattle.layout_defs.specs.Layout.{Info, fixed, trailing, Layout, layout_causes}
use Rattle.layout_defs.specs.Extend.{IsTrailing, is_trailing, preceding_size}
use Rattle.make.specs.Make.{slice_layout}

-- the size of an element (36 refuses one that has none)
abbrev pub element_size : Layout → ℕ
element_size l = preceding_size l.info

-- 36: the element is trailing
abbrev pub trailing_element : Info → Cause
trailing_element i = record { number = 36; test = is_trailing i; means = IsTrailing i }

-- 37: the array's size passes M
abbrev pub array_passes : ℕ → ℕ → Cause
array_passes w size = record { number = 37; test = ltb (M w) size; means = M w < size }

-- what refuses an element: its own causes, then 36
abbrev pub element_causes : ℕ → Layout → List Cause
element_causes w l = layout_causes w l ++ (trailing_element l.info ∷ [])

-- the size of an element that is accepted
unfoldable pub element_for : ℕ → Layout → Outcome ℕ
element_for w l = unless (element_causes w l) (element_size l)

-- an array: "keeps its element's mark and alignment; its size is the product"
abbrev pub array_layout : Layout → ℕ → Layout
array_layout l n = record {
  align = l.align;
  info = fixed (element_size l * n);
  mark = l.mark;
  modifier = l.modifier;
}

abbrev pub array_causes : ℕ → Layout → ℕ → List Cause
array_causes w l n = element_causes w l ++ (array_passes w (element_size l * n) ∷ [])

unfoldable pub array_for : ℕ → Layout → ℕ → Outcome Layout
array_for w l n = unless (array_causes w l n) (array_layout l n)

-- a slice: what `for_slice` gives of the element's size and alignment, with the element's modifier
abbrev pub slice_of : Layout → Layout
slice_of l = record {
  align = (slice_layout (element_size l) l.align).align;
  info = (slice_layout (element_size l) l.align).info;
  mark = (slice_layout (element_size l) l.align).mark;
  modifier = l.modifier;
}

unfoldable pub slice_of_for : ℕ → Layout → Outcome Layout
slice_of_for w l = unless (element_causes w l) (slice_of l)
