-- Arrays and slices of a layout, over any width w. Assumes nothing.
use mathlib.Core.Path.{◌≡◌, refl, sym, ap, ◌∙◌}
use mathlib.Core.Bool.{true}
use mathlib.Core.List.{[], ◌∷◌}
use Prim.Native.Nat.{ℕ, ◌*◌, ◌^◌, ◌≤◌, ◌<◌}
use borrow.Author.Tests.{le-ltb, lt-ltb}
use Rattle.util_defs.specs.Width.{M}
use Rattle.util_defs.specs.Refusal.{answered, refused, unless, Meets, Decided}
use Rattle.util_defs.proofs.Refusals.{tells_lt, meets}
use Rattle.util_defs.proofs.Tables.{answer_is, accepted_as, refused_as, refused_first, accepted_first, decided_both}
use Rattle.trailing_defs.specs.Size.{Trailing}
use Rattle.layout_defs.specs.Layout.{Info, fixed, trailing, Layout, layout_causes, check_for}
use Rattle.layout_defs.proofs.Layouts.{layout_decided}
use Rattle.layout_defs.proofs.Steps.{tells_trailing}
use Rattle.describe_defs.specs.Elements.{element_size, trailing_element, array_passes, array_layout, element_causes, element_for, array_causes, array_for, slice_of, slice_of_for}

-- an element that is accepted, with what alignment and marks its layout has
abbrev pub with_info : Layout → Info → Layout
with_info l i = record { align = l.align; info = i; mark = l.mark; modifier = l.modifier }

module _ (w : ℕ) (l : Layout) where
  pub element_own : {k : ℕ} → check_for w l ≡ refused k → refused k ≡ element_for w l
  unfolding check_for element_for
  element_own e = sym (refused_first (layout_causes w l) (trailing_element l.info ∷ []) tt (element_size l) e)

  pub element_trailing : {t : Trailing} → check_for w l ≡ answered tt → l.info ≡ trailing t → refused 36 ≡ element_for w l
  unfolding check_for element_for unless
  element_trailing e f = sym (accepted_first (layout_causes w l) (trailing_element l.info ∷ []) tt (element_size l) e ∙ rw f)

  pub element_sized : {s : ℕ} → check_for w l ≡ answered tt → l.info ≡ fixed s → answered s ≡ element_for w l
  unfolding check_for element_for unless
  element_sized e f = sym (accepted_first (layout_causes w l) (trailing_element l.info ∷ []) tt (element_size l) e ∙ rw f)

  pub array_off : (n : ℕ) {k : ℕ} → element_for w l ≡ refused k → refused k ≡ array_for w l n
  unfolding element_for array_for
  array_off n e = sym (refused_first (element_causes w l) (array_passes w (element_size l * n) ∷ []) (element_size l) (array_layout l n) e)

  pub array_past : (n : ℕ) {s : ℕ} → element_for w l ≡ answered s → M w < s * n → refused 37 ≡ array_for w l n
  unfolding element_for array_for unless
  array_past n {s} e h =
      let q : s ≡ element_size l = answer_is (element_causes w l) (element_size l) e in
      let g : M w < element_size l * n = rw q at h in
      sym (accepted_first (element_causes w l) (array_passes w (element_size l * n) ∷ []) (element_size l) (array_layout l n) e ∙ rw (lt-ltb (M w) (element_size l * n) g))

  pub array_on : (n : ℕ) {s : ℕ} → element_for w l ≡ answered s → s * n ≤ M w → answered (with_info l (fixed (s * n))) ≡ array_for w l n
  unfolding element_for array_for unless
  array_on n {s} e h =
      let q : s ≡ element_size l = answer_is (element_causes w l) (element_size l) e in
      let g : element_size l * n ≤ M w = rw q at h in
      ap (λ (z : ℕ). answered (with_info l (fixed (z * n)))) q
      ∙ sym (accepted_first (element_causes w l) (array_passes w (element_size l * n) ∷ []) (element_size l) (array_layout l n) e ∙ rw (le-ltb (M w) (element_size l * n) g))

  pub slice_off : {k : ℕ} → element_for w l ≡ refused k → refused k ≡ slice_of_for w l
  unfolding element_for slice_of_for
  slice_off e = sym (refused_as (element_causes w l) (element_size l) (slice_of l) e)

  pub slice_on : {s : ℕ} → element_for w l ≡ answered s
      → answered (record { align = l.align; info = trailing (record { offset = 0; elem = s; base = 0; word = l.align }); mark = true; modifier = l.modifier }) ≡ slice_of_for w l
  unfolding element_for slice_of_for
  slice_on {s} e =
      ap (λ (z : ℕ). answered (record { align = l.align; info = trailing (record { offset = 0; elem = z; base = 0; word = l.align }); mark = true; modifier = l.modifier })) (answer_is (element_causes w l) (element_size l) e)
      ∙ sym (accepted_as (element_causes w l) (element_size l) (slice_of l) e)

  -- what they mean
  element_decided : l.align < 2 ^ w → Decided (element_causes w l)
  element_decided h = decided_both (layout_causes w l) (trailing_element l.info ∷ []) (layout_decided w l h) (λ _. (tells_trailing l.info, λ _. tt))

  pub array_meets : (n : ℕ) → l.align < 2 ^ w → Meets (array_causes w l n) (λ r. r ≡ array_layout l n) (array_for w l n)
  unfolding array_for
  array_meets n h =
      meets (array_causes w l n) (array_layout l n) (decided_both (element_causes w l) (array_passes w (element_size l * n) ∷ []) (element_decided h) (λ _. (tells_lt (M w) (element_size l * n), λ _. tt))) (λ _. refl)

  pub slice_meets : l.align < 2 ^ w → Meets (element_causes w l) (λ r. r ≡ slice_of l) (slice_of_for w l)
  unfolding slice_of_for
  slice_meets h = meets (element_causes w l) (slice_of l) (element_decided h) (λ _. refl)
