-- `padding::pad_checked` meets its contract. Assumes nothing.
use Rattle.util.proofs.Told.{handed_on}
use mathlib.Core.Path.{sym, ap, ap₂, ◌∙◌, subst}
use mathlib.Core.Bool.{Bool}
use mathlib.Core.List.{[], ◌∷◌}
use Prim.Native.Nat.{ℕ}
use native.Mathlib.Omega.{arith}
use Rattle.util_defs.specs.Round.{up}
use Rattle.util_defs.specs.Refusal.{Outcome, answered, unless}
use Rattle.util.specs.View.{number_says}
use Rattle.util_defs.proofs.Tables.{told_by, answer_is, accepted_as, refused_as}
use Rattle.trailing.specs.View.{trailing_of}
use Rattle.layout_defs.specs.Layout.{Info, Layout, fixed, trailing, no_word}
use Rattle.layout_defs.specs.Extend.{rounding_passes}
use Rattle.layout.specs.View.{info_of, info_says}
use Rattle.layout.specs.declared.SizeInfo.{SizeInfo}
use Rattle.layout.specs.declared.SizeInfo.TheVariants.{SliceDst}
use Rattle.padding_defs.specs.Pad.{padded_info, padded_mark, padded_tail, padded, padding_needs}
use Rattle.padding.proofs.pad_checked.Goals as goal
use Rattle.padding.proofs.pad_checked.Goals.{Start}

-- the padded layout, and what padding says of it, of a size
abbrev made : Start → Info → Layout
made k i = record { align = k.args.valid.layout.align; info = padded_info 64 k.args.valid.layout.align i; mark = padded_mark k.args.valid.layout.align i k.args.valid.layout.statically_shallow_unpadded; modifier = k.args.valid.layout.align_modifier }

abbrev says : Start → SizeInfo ℕ → Outcome Layout
says k i = unless (rounding_passes 64 (padding_needs 64 k.args.valid.layout.align (info_of i)) ∷ []) (made k (info_of i))

pub invariant_of-pad_trailing : goal.invariant_of-pad_trailing
invariant_of-pad_trailing c =
    let n : (no_word (info_of (SliceDst c.in-SliceDst.tail))).means → ⊥ = subst (λ (i : SizeInfo ℕ). (no_word (info_of i)).means → ⊥) c.in-SliceDst.is c.args.valid.accepted.1.0 in
    record { has_word = omega (arith, n) }

pub returns-in_ok-padded-in-Sized : goal.returns-in_ok-padded-in-Sized
unfolding padded
returns-in_ok-padded-in-Sized c =
    let a = c.args.valid.layout.align in
    let g = c.in-Sized.is in
    let s = c.in-Sized.size in
    let cs = rounding_passes 64 (up s a) ∷ [] in
    let e = told_by number_says (c.round_up_to.ensures ∙ ap (λ (x : ℕ). unless (rounding_passes 64 (up s x) ∷ []) (up s x)) c.align-align.ensures) c.in_ok-padded-in-Sized.was in
    ap₂ (λ (n : ℕ) (m : Bool). answered (record { align = a; info = fixed n; mark = m; modifier = c.args.valid.layout.align_modifier })) (answer_is cs (up s a) e) (c.pad_mark-unpadded.ensures ∙ ap (λ (x : ℕ). padded_mark x (info_of c.args.valid.layout.size_info) c.args.valid.layout.statically_shallow_unpadded) c.align-align.ensures ∙ ap (λ (i : SizeInfo ℕ). padded_mark a (info_of i) c.args.valid.layout.statically_shallow_unpadded) g)
    ∙ sym (accepted_as cs (up s a) (made c.before.before.before.before.before.before.before (fixed s)) e)
    ∙ ap (says c.before.before.before.before.before.before.before) (sym g)

pub returns-in_err-padded-in-Sized : goal.returns-in_err-padded-in-Sized
unfolding padded
returns-in_err-padded-in-Sized c =
    let a = c.args.valid.layout.align in
    let g = c.in-Sized.is in
    let s = c.in-Sized.size in
    let cs = rounding_passes 64 (up s a) ∷ [] in
    let e = told_by number_says (c.round_up_to.ensures ∙ ap (λ (x : ℕ). unless (rounding_passes 64 (up s x) ∷ []) (up s x)) c.align-align.ensures) c.in_err-padded-in-Sized.was in
    handed_on _ c.from_residual.result _ c.from_residual.ensures.1 (sym (refused_as cs (up s a) (made c.before.before.before.before.before.before.before.before (fixed s)) e) ∙ ap (says c.before.before.before.before.before.before.before.before) (sym g))

pub returns-in_ok-padded_info-in-SliceDst : goal.returns-in_ok-padded_info-in-SliceDst
unfolding padded
returns-in_ok-padded_info-in-SliceDst c =
    let a = c.args.valid.layout.align in
    let g = c.in-SliceDst.is in
    let t = trailing_of c.in-SliceDst.tail in
    let cs = rounding_passes 64 (padding_needs 64 a (trailing t)) ∷ [] in
    let e = told_by info_says (c.pad_trailing.ensures ∙ ap (λ (x : ℕ). unless (rounding_passes 64 (padding_needs 64 x (trailing t)) ∷ []) (trailing (padded_tail 64 x t))) c.align-align.ensures) c.in_ok-padded_info-in-SliceDst.was in
    ap₂ (λ (i : Info) (m : Bool). answered (record { align = a; info = i; mark = m; modifier = c.args.valid.layout.align_modifier })) (answer_is cs (trailing (padded_tail 64 a t)) e) (c.pad_mark-unpadded.ensures ∙ ap (λ (x : ℕ). padded_mark x (info_of c.args.valid.layout.size_info) c.args.valid.layout.statically_shallow_unpadded) c.align-align.ensures ∙ ap (λ (i : SizeInfo ℕ). padded_mark a (info_of i) c.args.valid.layout.statically_shallow_unpadded) g)
    ∙ sym (accepted_as cs (trailing (padded_tail 64 a t)) (made c.before.before.before.before.before.before.before.before (trailing t)) e)
    ∙ ap (says c.before.before.before.before.before.before.before.before) (sym g)

pub returns-in_err-padded_info-in-SliceDst : goal.returns-in_err-padded_info-in-SliceDst
unfolding padded
returns-in_err-padded_info-in-SliceDst c =
    let a = c.args.valid.layout.align in
    let g = c.in-SliceDst.is in
    let t = trailing_of c.in-SliceDst.tail in
    let cs = rounding_passes 64 (padding_needs 64 a (trailing t)) ∷ [] in
    let e = told_by info_says (c.pad_trailing.ensures ∙ ap (λ (x : ℕ). unless (rounding_passes 64 (padding_needs 64 x (trailing t)) ∷ []) (trailing (padded_tail 64 x t))) c.align-align.ensures) c.in_err-padded_info-in-SliceDst.was in
    handed_on _ c.from_residual-in_err-padded_info-in-SliceDst.result _ c.from_residual-in_err-padded_info-in-SliceDst.ensures.1 (sym (refused_as cs (trailing (padded_tail 64 a t)) (made c.before.before.before.before.before.before.before.before.before (trailing t)) e) ∙ ap (says c.before.before.before.before.before.before.before.before.before) (sym g))
