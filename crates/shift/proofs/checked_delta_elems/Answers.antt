-- `shift::checked_delta_elems` meets its contract. Assumes nothing.
use Prim.Native.Nat.{ℕ}
use mathlib.Core.Path.{refl, sym, ap₂, ◌∙◌, subst}
use native.Mathlib.Omega.{arith}
use borrow.Author.Tests.{eq-eqb, ne_eqb}
use Rattle.trailing.specs.View.{trailing_of}
use Rattle.layout_defs.specs.Layout.{no_word}
use Rattle.layout.specs.declared.SizeInfo.{SizeInfo}
use Rattle.layout.specs.View.{info_of, layout_of}
use Rattle.shift_defs.specs.Shift.{shift_between}
use Rattle.shift_defs.specs.Mode.{comparison_of}
use Rattle.shift.specs.View.{mode_of}
use Rattle.shift.proofs.checked_delta_elems.Goals as goal

pub invariant_of-src : goal.invariant_of-src
invariant_of-src c = let v = subst (λ (i : SizeInfo ℕ). (no_word (info_of i)).means → ⊥) c.in-SliceDst.is c.args.valid_src.accepted.1.0 in omega (arith, v)

pub invariant_of-dst : goal.invariant_of-dst
invariant_of-dst c = let v = subst (λ (i : SizeInfo ℕ). (no_word (info_of i)).means → ⊥) c.in-SliceDst-dst_info.is c.args.valid_dst.accepted.1.0 in omega (arith, v)

pub returns-then-dst-eq0 : goal.returns-then-dst-eq0
returns-then-dst-eq0 c =
    let t = trailing_of c.in-SliceDst-dst_info.dst in
    simp (eq-eqb t.elem 0 c.if-dst-eq0.true) refl
    ∙ ap₂ (λ (i j : SizeInfo ℕ). shift_between 64 (comparison_of 64 (mode_of c.args.mode)) (info_of i) (layout_of c.args.valid_dst.layout) (info_of j)) (sym c.in-SliceDst.is) (sym c.in-SliceDst-dst_info.is)

pub returns-in-Ported : goal.returns-in-Ported
returns-in-Ported c =
    let t = trailing_of c.in-SliceDst-dst_info.dst in
    c.matching_delta_elems.ensures
    ∙ simp (ne_eqb t.elem 0 c.if-dst-eq0.false, c.in-Ported.is) refl
    ∙ ap₂ (λ (i j : SizeInfo ℕ). shift_between 64 (comparison_of 64 (mode_of c.args.mode)) (info_of i) (layout_of c.args.valid_dst.layout) (info_of j)) (sym c.in-SliceDst.is) (sym c.in-SliceDst-dst_info.is)

pub returns-in-Full : goal.returns-in-Full
returns-in-Full c =
    let t = trailing_of c.in-SliceDst-dst_info.dst in
    c.matching_delta_elems-in-Full.ensures
    ∙ simp (ne_eqb t.elem 0 c.if-dst-eq0.false, c.in-Full.is) refl
    ∙ ap₂ (λ (i j : SizeInfo ℕ). shift_between 64 (comparison_of 64 (mode_of c.args.mode)) (info_of i) (layout_of c.args.valid_dst.layout) (info_of j)) (sym c.in-SliceDst.is) (sym c.in-SliceDst-dst_info.is)
