-- `shift::matching_delta_elems` meets its contract. Assumes nothing.
use mathlib.Core.Path.{sym, ap, ◌∙◌}
use Rattle.trailing.specs.View.{trailing_of}
use Rattle.layout.specs.View.{layout_of}
use Rattle.shift_defs.specs.Shift.{Shift, by_size, matched_shift, or_else, shift_of}
use Rattle.shift.specs.View.{shift_in}
use Rattle.shift.proofs.matching_delta_elems.Goals as goal

pub returns-in-Some : goal.returns-in-Some
unfolding shift_of
returns-in-Some g c =
    let s = trailing_of c.args.src.layout in
    let t = trailing_of c.args.dst.valid.layout in
    ap (λ (x : Shift). or_else x (matched_shift 64 g.C.Compares.comparison s t (by_size 64 s (layout_of c.args.dst_layout)))) (sym (ap shift_in c.in-Some.is) ∙ c.matching_offset.ensures)

pub returns-in-None : goal.returns-in-None
unfolding shift_of
returns-in-None g c =
    let s = trailing_of c.args.src.layout in
    let t = trailing_of c.args.dst.valid.layout in
    c.matching_size.ensures
    ∙ ap (λ (x : Shift). or_else x (matched_shift 64 g.C.Compares.comparison s t (by_size 64 s (layout_of c.args.dst_layout)))) (sym (ap shift_in c.in-None.is) ∙ c.matching_offset.ensures)
