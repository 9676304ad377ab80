-- `shift::matching_size` meets its contract. Assumes nothing.
use mathlib.Core.Path.{sym, ap, ◌∙◌}
use Rattle.trailing.specs.View.{trailing_of}
use Rattle.layout.specs.View.{layout_of}
use Rattle.shift_defs.specs.Shift.{by_size, matched_shift}
use Rattle.shift_defs.proofs.Shifts.{matched_yes, matched_no}
use Rattle.shift.specs.View.{shift_in}
use Rattle.shift.proofs.matching_size.Goals as goal

pub returns-then-matches : goal.returns-then-matches
returns-then-matches g c =
    let s = trailing_of c.args.src.layout in
    let t = trailing_of c.args.dst.layout in
    matched_yes 64 g.C.Compares.comparison s t (by_size 64 s (layout_of c.args.dst_layout)) c.in_ok-count.count (sym (ap shift_in c.in_ok-count.was) ∙ c.offset_delta_by_size.ensures) (sym c.matches.ensures ∙ c.if-matches.true)

pub returns-else-matches : goal.returns-else-matches
returns-else-matches g c =
    let s = trailing_of c.args.src.layout in
    let t = trailing_of c.args.dst.layout in
    matched_no 64 g.C.Compares.comparison s t (by_size 64 s (layout_of c.args.dst_layout)) c.in_ok-count.count (sym (ap shift_in c.in_ok-count.was) ∙ c.offset_delta_by_size.ensures) (sym c.matches.ensures ∙ c.if-matches.false)

pub returns-in_err-count : goal.returns-in_err-count
returns-in_err-count g c =
    let s = trailing_of c.args.src.layout in
    let t = trailing_of c.args.dst.layout in
    ap shift_in c.from_residual.ensures ∙ ap (matched_shift 64 g.C.Compares.comparison s t) (sym (ap shift_in c.in_err-count.was) ∙ c.offset_delta_by_size.ensures)
