-- `padding::pad_trailing` meets its contract. Assumes nothing.
use native.Mathlib.Omega.{arith}
use borrow.Author.Tests.{lt-ltb, le-ltb}
use Rattle.rounding.proofs.Words.{align_is}
use mathlib.Core.Path.{refl, sym, ap, ◌∙◌}
use mathlib.Core.List.{[], ◌∷◌}
use Prim.Native.Nat.{ℕ}
use Rattle.util_defs.specs.Refusal.{unless}
use Rattle.layout_defs.specs.Layout.{trailing}
use Rattle.layout_defs.specs.Extend.{rounding_passes}
use Rattle.trailing.specs.declared.TrailingSliceLayout.{TrailingSliceLayout}
use Rattle.trailing.proofs.Told.{decoded_told, decoded_refused}
use Rattle.trailing_defs.specs.Size.{A}
use Rattle.trailing.specs.View.{trailing_of}
use Rattle.padding_defs.specs.Pad.{padded_tail, padding_needs}
use Rattle.padding.proofs.pad_trailing.Goals as goal

pub returns-then-decoded-align : goal.returns-then-decoded-align
unfolding padded_tail
returns-then-decoded-align c =
    let t = trailing_of c.in_ok-decoded.decoded.layout in
    let e = align_is 64 c.in_ok-decoded.decoded.is_word (omega arith) in
    c.pad_coarser.ensures ∙ sym (simp (lt-ltb (A 64 t) c.args.align.value (omega (arith, e, c.if-decoded-align.true))) refl)
    ∙ ap (λ (l : TrailingSliceLayout ℕ). unless (rounding_passes 64 (padding_needs 64 c.args.align.value (trailing (trailing_of l))) ∷ []) (trailing (padded_tail 64 c.args.align.value (trailing_of l)))) (decoded_told c.decoded.result c.decoded.ensures c.in_ok-decoded.was)

pub returns-else-decoded-align : goal.returns-else-decoded-align
unfolding padded_tail
returns-else-decoded-align c =
    let t = trailing_of c.in_ok-decoded.decoded.layout in
    let e = align_is 64 c.in_ok-decoded.decoded.is_word (omega arith) in
    c.pad_finer.ensures ∙ sym (simp (le-ltb (A 64 t) c.args.align.value (omega (arith, e, c.if-decoded-align.false))) refl)
    ∙ ap (λ (l : TrailingSliceLayout ℕ). unless (rounding_passes 64 (padding_needs 64 c.args.align.value (trailing (trailing_of l))) ∷ []) (trailing (padded_tail 64 c.args.align.value (trailing_of l)))) (decoded_told c.decoded.result c.decoded.ensures c.in_ok-decoded.was)

pub returns-in_err-decoded : goal.returns-in_err-decoded
returns-in_err-decoded c = absurd (omega (arith, c.args.valid.has_word, (decoded_refused c.decoded.result c.decoded.ensures c.in_err-decoded.was).0))
