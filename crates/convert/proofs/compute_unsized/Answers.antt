-- `convert::compute_unsized` meets its contract. Assumes nothing.
use mathlib.Core.Path.{sym, ap, ◌∙◌}
use Prim.Native.Nat.{ℕ, ◌/◌, ◌%◌}
use borrow.Author.Tests.{eq-eqb, ne_eqb, lt-ltb, le-ltb}
use native.Mathlib.Omega.{arith}
use Rattle.shift_defs.specs.Mode.{comparison_of}
use Rattle.trailing.specs.View.{trailing_of}
use Rattle.layout.specs.View.{layout_of}
use Rattle.shift.specs.View.{mode_of, shift_in}
use Rattle.shift.proofs.Told.{shift_told, shift_kept}
use Rattle.convert_defs.specs.Convert.{Params, with_shift}
use Rattle.convert_defs.specs.Reasons.{is_missing}
use Rattle.util_defs.specs.Refusal.{Outcome, answered, refused, unless}
use Rattle.shift_defs.specs.Shift.{Shift}
use mathlib.Core.Bool.{cond}
use Rattle.convert.proofs.compute_unsized.Goals as goal

-- what a shift gives
abbrev by-shift : ℕ → Shift → Outcome Params
by-shift k x = cond (is_missing x) (refused 32) (answered (with_shift k x))

pub returns-then-dst_elem_size-eq0 : goal.returns-then-dst_elem_size-eq0
unfolding unless
returns-then-dst_elem_size-eq0 c =
    let t = trailing_of c.args.dst in
    simp (eq-eqb t.elem 0 c.if-dst_elem_size-eq0.true)

pub returns-then-src_elem_size-dst_elem_size : goal.returns-then-src_elem_size-dst_elem_size
unfolding unless
returns-then-src_elem_size-dst_elem_size c =
    let s = trailing_of c.args.src in
    let t = trailing_of c.args.dst in
    simp (ne_eqb t.elem 0 c.if-dst_elem_size-eq0.false, lt-ltb s.elem t.elem c.if-src_elem_size-dst_elem_size.true)

pub returns-then-src_elem_size-dst_elem_size-ne0 : goal.returns-then-src_elem_size-dst_elem_size-ne0
unfolding unless
returns-then-src_elem_size-dst_elem_size-ne0 c =
    let s = trailing_of c.args.src in
    let t = trailing_of c.args.dst in
    simp (ne_eqb t.elem 0 c.if-dst_elem_size-eq0.false, le-ltb s.elem t.elem c.if-src_elem_size-dst_elem_size.false, ne_eqb (s.elem % t.elem) 0 c.if-src_elem_size-dst_elem_size-ne0.true)

pub returns-in_default : goal.returns-in_default
unfolding unless
returns-in_default c =
    let s = trailing_of c.args.src in
    let t = trailing_of c.args.dst in
    absurd (shift_kept 64 (comparison_of 64 (mode_of c.args.mode)) (layout_of c.args.valid_src.layout) (layout_of c.args.valid_dst.layout) s t c.offset_delta_elems.result (omega arith) (omega arith) c.args.valid_src.accepted c.args.valid_dst.accepted c.requires.0 c.requires.1 (omega arith) c.offset_delta_elems.ensures.answer c.in_default.is)

pub returns-in-Some : goal.returns-in-Some
unfolding unless
returns-in-Some c =
    let s = trailing_of c.args.src in
    let t = trailing_of c.args.dst in
    simp (ne_eqb t.elem 0 c.if-dst_elem_size-eq0.false, le-ltb s.elem t.elem c.if-src_elem_size-dst_elem_size.false, eq-eqb (s.elem % t.elem) 0 c.if-src_elem_size-dst_elem_size-ne0.false)
    (ap (by-shift (s.elem / t.elem)) (sym (ap shift_in c.in-Some.is) ∙ shift_told 64 (comparison_of 64 (mode_of c.args.mode)) (layout_of c.args.valid_src.layout) (layout_of c.args.valid_dst.layout) s t c.offset_delta_elems.result (omega arith) (omega arith) c.args.valid_src.accepted c.args.valid_dst.accepted c.requires.0 c.requires.1 (omega arith) c.offset_delta_elems.ensures.answer c.in-Ok.is))

pub returns-in-None : goal.returns-in-None
unfolding unless
returns-in-None c =
    let s = trailing_of c.args.src in
    let t = trailing_of c.args.dst in
    simp (ne_eqb t.elem 0 c.if-dst_elem_size-eq0.false, le-ltb s.elem t.elem c.if-src_elem_size-dst_elem_size.false, eq-eqb (s.elem % t.elem) 0 c.if-src_elem_size-dst_elem_size-ne0.false)
    (ap (by-shift (s.elem / t.elem)) (sym (ap shift_in c.in-None.is) ∙ shift_told 64 (comparison_of 64 (mode_of c.args.mode)) (layout_of c.args.valid_src.layout) (layout_of c.args.valid_dst.layout) s t c.offset_delta_elems.result (omega arith) (omega arith) c.args.valid_src.accepted c.args.valid_dst.accepted c.requires.0 c.requires.1 (omega arith) c.offset_delta_elems.ensures.answer c.in-Ok.is))
