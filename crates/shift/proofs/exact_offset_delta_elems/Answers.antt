-- `shift::exact_offset_delta_elems` meets its contract. Assumes nothing.
use mathlib.Core.Path.{refl, sym, ap₂, ◌∙◌}
use mathlib.Core.Bool.{cond, ◌&&◌}
use Prim.Native.Nat.{ℕ, ◌-◌, ◌/◌, ◌%◌}
use lib.Dec.{eqb, leb}
use borrow.Author.Tests.{le-leb, lt-leb, eq-eqb, ne_eqb}
use Rattle.util.proofs.Told.{number_told}
use Rattle.shift.proofs.Told.{ok_some, ok_there}
use Rattle.trailing.specs.View.{trailing_of}
use Rattle.trailing_defs.proofs.Calls.{size_offset_answered}
use Rattle.shift_defs.specs.Shift.{Shift, by, missing}
use Rattle.shift.proofs.exact_offset_delta_elems.Goals as goal

-- the shift between two offsets, as `by_offset` has it
abbrev between : ℕ → ℕ → ℕ → Shift
between e x y = cond (leb y x && eqb ((x - y) % e) 0) (by ((x - y) / e)) missing

pub returns-in_err-src_offset : goal.returns-in_err-src_offset
returns-in_err-src_offset c =
    let s = trailing_of c.args.src.layout in
    absurd (ok_there c.size_offset.result c.size_offset.ensures.answer (size_offset_answered 64 s c.args.src.has_word) (sym c.ok.ensures.value ∙ c.in_err-src_offset.was))

pub returns-in_err-dst_offset : goal.returns-in_err-dst_offset
returns-in_err-dst_offset c =
    let t = trailing_of c.args.dst.valid.layout in
    absurd (ok_there c.size_offset-2.result c.size_offset-2.ensures.answer (size_offset_answered 64 t c.args.dst.valid.has_word) (sym c.ok-2.ensures.value ∙ c.in_err-dst_offset.was))

pub returns-then-src_offset-dst_offset : goal.returns-then-src_offset-dst_offset
returns-then-src_offset-dst_offset c =
    let s = trailing_of c.args.src.layout in
    let t = trailing_of c.args.dst.valid.layout in
    let x = c.in_ok-src_offset.src_offset in
    let y = c.in_ok-dst_offset.dst_offset in
    simp (lt-leb y x c.if-src_offset-dst_offset.true) refl ∙ ap₂ (between t.elem) (number_told c.size_offset.result c.size_offset.ensures.answer (size_offset_answered 64 s c.args.src.has_word) (ok_some c.size_offset.result (sym c.ok.ensures.value ∙ c.in_ok-src_offset.was))) (number_told c.size_offset-2.result c.size_offset-2.ensures.answer (size_offset_answered 64 t c.args.dst.valid.has_word) (ok_some c.size_offset-2.result (sym c.ok-2.ensures.value ∙ c.in_ok-dst_offset.was)))

pub returns-then-delta-dst_elem_size-eq0 : goal.returns-then-delta-dst_elem_size-eq0
returns-then-delta-dst_elem_size-eq0 c =
    let s = trailing_of c.args.src.layout in
    let t = trailing_of c.args.dst.valid.layout in
    let x = c.in_ok-src_offset.src_offset in
    let y = c.in_ok-dst_offset.dst_offset in
    simp (le-leb y x c.if-src_offset-dst_offset.false, eq-eqb ((x - y) % t.elem) 0 c.if-delta-dst_elem_size-eq0.true) refl ∙ ap₂ (between t.elem) (number_told c.size_offset.result c.size_offset.ensures.answer (size_offset_answered 64 s c.args.src.has_word) (ok_some c.size_offset.result (sym c.ok.ensures.value ∙ c.in_ok-src_offset.was))) (number_told c.size_offset-2.result c.size_offset-2.ensures.answer (size_offset_answered 64 t c.args.dst.valid.has_word) (ok_some c.size_offset-2.result (sym c.ok-2.ensures.value ∙ c.in_ok-dst_offset.was)))

pub returns-else-delta-dst_elem_size-eq0 : goal.returns-else-delta-dst_elem_size-eq0
returns-else-delta-dst_elem_size-eq0 c =
    let s = trailing_of c.args.src.layout in
    let t = trailing_of c.args.dst.valid.layout in
    let x = c.in_ok-src_offset.src_offset in
    let y = c.in_ok-dst_offset.dst_offset in
    simp (le-leb y x c.if-src_offset-dst_offset.false, ne_eqb ((x - y) % t.elem) 0 c.if-delta-dst_elem_size-eq0.false) refl ∙ ap₂ (between t.elem) (number_told c.size_offset.result c.size_offset.ensures.answer (size_offset_answered 64 s c.args.src.has_word) (ok_some c.size_offset.result (sym c.ok.ensures.value ∙ c.in_ok-src_offset.was))) (number_told c.size_offset-2.result c.size_offset-2.ensures.answer (size_offset_answered 64 t c.args.dst.valid.has_word) (ok_some c.size_offset-2.result (sym c.ok-2.ensures.value ∙ c.in_ok-dst_offset.was)))
