-- `shift::matching_offset` meets its contract. Assumes nothing.
use mathlib.Core.Path.{sym, ap, ◌∙◌}
use Rattle.trailing.specs.View.{trailing_of}
use Rattle.shift_defs.specs.Shift.{by_offset, matched_shift}
use Rattle.shift_defs.proofs.Shifts.{matched_yes, matched_no}
use Rattle.shift.specs.View.{shift_in}
use Rattle.shift.proofs.matching_offset.Goals as goal

pub returns-then-matches : goal.returns-then-matches
returns-then-matches g c =
    let s = trailing_of c.args.src.layout in
    let t = trailing_of c.args.dst.valid.layout in
    matched_yes 64 g.C.Compares.comparison s t (by_offset 64 s t) c.in_ok-elems.elems (sym (ap shift_in c.in_ok-elems.was) ∙ c.exact_offset_delta_elems.ensures) (sym c.matches.ensures ∙ c.if-matches.true)

pub returns-else-matches : goal.returns-else-matches
returns-else-matches g c =
    let s = trailing_of c.args.src.layout in
    let t = trailing_of c.args.dst.valid.layout in
    matched_no 64 g.C.Compares.comparison s t (by_offset 64 s t) c.in_ok-elems.elems (sym (ap shift_in c.in_ok-elems.was) ∙ c.exact_offset_delta_elems.ensures) (sym c.matches.ensures ∙ c.if-matches.false)

pub returns-in_err-elems : goal.returns-in_err-elems
returns-in_err-elems g c =
    let s = trailing_of c.args.src.layout in
    let t = trailing_of c.args.dst.valid.layout in
    ap shift_in c.from_residual.ensures ∙ ap (matched_shift 64 g.C.Compares.comparison s t) (sym (ap shift_in c.in_err-elems.was) ∙ c.exact_offset_delta_elems.ensures)
