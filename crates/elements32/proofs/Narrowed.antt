-- Arrays and slices of a layout at v bits, by w. Assumes nothing.
use mathlib.Core.Path.{◌≡◌, refl, sym, ap, ◌∙◌, subst}
use mathlib.Core.Bool.{not}
use mathlib.Core.List.{[], ◌∷◌}
use Prim.Native.Nat.{ℕ, ◌*◌, ◌^◌, ◌≤◌, ◌<◌}
use native.Mathlib.Omega.{arith}
use lib.Pow.{pow_pos, pow_mono}
use borrow.Author.Tests.{lt-leb, le-leb}
use Rattle.util_defs.specs.Width.{M}
use Rattle.util_defs.specs.Refusal.{answered, unless, Decided}
use Rattle.util_defs.proofs.Refusals.{tells_lt}
use Rattle.util_defs.proofs.Tables.{answer_is, accepted_none, none_both, decided_both}
use Rattle.layout_defs.specs.Layout.{Info, fixed, trailing, Layout, layout_causes}
use Rattle.layout_defs.specs.Extend.{preceding_size}
use Rattle.layout_defs.proofs.Layouts.{layout_decided}
use Rattle.layout_defs.proofs.Steps.{tells_trailing}
use Rattle.describe_defs.specs.Elements.{element_size, trailing_element, array_passes, element_causes, array_layout, array_causes, array_for, slice_of, slice_of_for}
use Rattle.widths_defs.specs.Low.{mapped}
use Rattle.widths_layouts_defs.specs.Low.{low_layout, InfoIn, LayoutIn}
use Rattle.widths_layouts_defs.specs.Within.{closed_within}
use Rattle.elements32.specs.Within.{array_within}
use Rattle.widths_defs.proofs.Widths.{held, same_power, mapped_same, unless_same, tables, limit, Alike}
use Rattle.widths_layouts_defs.proofs.Layouts.{low_layout_lem}

-- what refuses an element
element_alike : (v w : ℕ) (l : Layout) → v ≤ w → l.align < 2 ^ v → Alike (element_causes v l) (element_causes w l)
element_alike v w l h a = ((ap not (same_power v w l.align h a), refl), ((refl, refl), ((refl, refl), tt)))

element_decided : (w : ℕ) (l : Layout) → l.align < 2 ^ w → Decided (element_causes w l)
element_decided w l h = decided_both (layout_causes w l) (trailing_element l.info ∷ []) (layout_decided w l h) (λ _. (tells_trailing l.info, λ _. tt))

element_in : (v : ℕ) (i : Info) → InfoIn v i → preceding_size i < 2 ^ v
element_in v (fixed s) h = h
element_in v (trailing t) h = pow_pos v

-- `for_array`: 37 where the size passes M at v
pub array_narrows : (v w : ℕ) (l : Layout) (n : ℕ) → v ≤ w → l.align < 2 ^ v → array_for v l n ≡ array_within (M v) (array_for w l n)
unfolding array_for unless
array_narrows v w l n h a =
    let m : 2 ^ v ≤ 2 ^ w = pow_mono h in
    let z = element_size l * n in
    let r = array_layout l n in
    tables (array_within (M v)) (λ k. refl) (element_causes v l) (element_causes w l) (array_passes v z ∷ []) (array_passes w z ∷ []) r r
    (element_alike v w l h a) (element_decided w l (held v w h a))
    (λ _. limit 37 r (λ (x : Layout). closed_within (M v) x.info) (tells_lt (M v) z) (tells_lt (M w) z) (λ x. omega (arith, x, m)) (λ x. lt-leb z (M v) x) (λ x. le-leb z (M v) (omega (arith, x))))

-- and what it gives is held
array_in : (v : ℕ) (l : Layout) (n : ℕ) (r : Layout) → l.align < 2 ^ v → array_for v l n ≡ answered r → LayoutIn v r
unfolding array_for
array_in v l n r a e =
    let z = element_size l * n in
    let d = decided_both (element_causes v l) (array_passes v z ∷ []) (element_decided v l a) (λ _. (tells_lt (M v) z, λ _. tt)) in
    let x = none_both (element_causes v l) (array_passes v z ∷ []) (accepted_none (array_causes v l n) (array_layout l n) d e) in
    subst (LayoutIn v) (sym (answer_is (array_causes v l n) (array_layout l n) e)) (record { align = a; info = omega (arith, x.1.0, pow_pos v) })

pub array_low : (v w : ℕ) (l : Layout) (n : ℕ) → v ≤ w → l.align < 2 ^ v → array_for v l n ≡ mapped (low_layout v) (array_within (M v) (array_for w l n))
array_low v w l n h a =
    mapped_same (low_layout v) (array_for v l n) (λ r e. low_layout_lem v r (array_in v l n r a e)) ∙ ap (mapped (low_layout v)) (array_narrows v w l n h a)

-- `for_slice_of`: the same
pub slice_same : (v w : ℕ) (l : Layout) → v ≤ w → l.align < 2 ^ v → slice_of_for v l ≡ slice_of_for w l
unfolding slice_of_for unless
slice_same v w l h a = simp (same_power v w l.align h a)

pub slice_low : (v w : ℕ) (l : Layout) → v ≤ w → LayoutIn v l → slice_of_for v l ≡ mapped (low_layout v) (slice_of_for w l)
unfolding slice_of_for
slice_low v w l h q =
    unless_same (low_layout v) (element_causes v l) (slice_of l) (element_decided v l q.align)
    (λ _. low_layout_lem v (slice_of l) (record { align = q.align; info = record { offset = pow_pos v; elem = element_in v l.info q.info; base = pow_pos v; word = q.align } }))
    ∙ ap (mapped (low_layout v)) (slice_same v w l h q.align)
