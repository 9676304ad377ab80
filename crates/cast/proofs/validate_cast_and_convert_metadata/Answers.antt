-- `cast::validate_cast_and_convert_metadata` meets its contract. Assumes nothing.
use Rattle.util.proofs.Told.{handed_on}
use mathlib.Core.Path.{sym, ◌∙◌}
use lib.Dec.{lit<}
use native.Mathlib.Omega.{arith}
use Rattle.util_defs.proofs.Tables.{told_by, refused_first, accepted_first, accepted_none}
use Rattle.layout_defs.specs.Layout.{layout_causes, check_for}
use Rattle.layout.specs.View.{layout_of, check_says}
use Rattle.layout_defs.proofs.Layouts.{layout_decided}
use Rattle.cast_defs.specs.Cast.{bytes_causes, greatest_grant, cast_for}
use Rattle.cast.specs.View.{side_of}
use Rattle.cast_defs.proofs.Grants.{cast_meets}
use Rattle.util_defs.proofs.Refusals.{means}
use Rattle.cast.proofs.validate_cast_and_convert_metadata.Goals as goal

pub invariant_of-cast_checked : goal.invariant_of-cast_checked
unfolding check_for
invariant_of-cast_checked c = let l = layout_of c.args.layout in record { accepted = accepted_none (layout_causes 64 l) tt (layout_decided 64 l (omega arith)) (told_by check_says c.check.ensures.answer c.in_ok-check.was) }

pub returns-clause-answer : goal.returns-clause-answer
unfolding cast_for check_for
returns-clause-answer c =
    let l = layout_of c.args.layout in
    let side = side_of c.args.cast_type in
    let cs = bytes_causes 64 l side c.args.addr c.args.bytes_len in
    let g = greatest_grant 64 l.info side c.args.bytes_len in c.cast_checked.ensures ∙ sym (accepted_first (layout_causes 64 l) cs tt g (told_by check_says c.check.ensures.answer c.in_ok-check.was))

pub returns-clause-meaning : goal.returns-clause-meaning
returns-clause-meaning c =
    let l = layout_of c.args.layout in
    let side = side_of c.args.cast_type in
    let cs = bytes_causes 64 l side c.args.addr c.args.bytes_len in
    let g = greatest_grant 64 l.info side c.args.bytes_len in means (cast_meets 64 l side c.args.addr c.args.bytes_len (omega arith) (lit< tt)) (returns-clause-answer c)

pub returns-in_err-check-clause-answer : goal.returns-in_err-check-clause-answer
unfolding cast_for check_for
returns-in_err-check-clause-answer c =
    let l = layout_of c.args.layout in
    let side = side_of c.args.cast_type in
    let cs = bytes_causes 64 l side c.args.addr c.args.bytes_len in
    let g = greatest_grant 64 l.info side c.args.bytes_len in handed_on _ c.from_residual.result _ c.from_residual.ensures.1 (sym (refused_first (layout_causes 64 l) cs tt g (told_by check_says c.check.ensures.answer c.in_err-check.was)))

pub returns-in_err-check-clause-meaning : goal.returns-in_err-check-clause-meaning
returns-in_err-check-clause-meaning c =
    let l = layout_of c.args.layout in
    let side = side_of c.args.cast_type in
    let cs = bytes_causes 64 l side c.args.addr c.args.bytes_len in
    let g = greatest_grant 64 l.info side c.args.bytes_len in means (cast_meets 64 l side c.args.addr c.args.bytes_len (omega arith) (lit< tt)) (returns-in_err-check-clause-answer c)
