-- `cast::metadata_for_exact_size` meets its contract. Assumes nothing.
use Rattle.util.proofs.Told.{handed_on}
use mathlib.Core.Path.{sym, ◌∙◌}
use mathlib.Core.List.{[], ◌∷◌}
use lib.Dec.{lit<}
use native.Mathlib.Omega.{arith}
use Rattle.util_defs.proofs.Tables.{told_by, refused_first, accepted_first, accepted_none}
use Rattle.layout_defs.specs.Layout.{layout_causes, check_for}
use Rattle.layout.specs.View.{layout_of, check_says}
use Rattle.layout_defs.proofs.Layouts.{layout_decided}
use Rattle.cast_defs.specs.Cast.{count_in}
use Rattle.cast_defs.specs.Exact.{no_exact, exact_for}
use Rattle.cast_defs.proofs.Exact.{exact_meets}
use Rattle.util_defs.proofs.Refusals.{means}
use Rattle.cast.proofs.metadata_for_exact_size.Goals as goal

pub invariant_of-exact_checked : goal.invariant_of-exact_checked
unfolding check_for
invariant_of-exact_checked c = let l = layout_of c.args.layout in record { accepted = accepted_none (layout_causes 64 l) tt (layout_decided 64 l (omega arith)) (told_by check_says c.check.ensures.answer c.in_ok-check.was) }

pub returns-clause-answer : goal.returns-clause-answer
unfolding exact_for check_for
returns-clause-answer c =
    let l = layout_of c.args.layout in
    let cs = no_exact 64 l c.args.size ∷ [] in
    let n = count_in 64 l.info c.args.size in c.exact_checked.ensures ∙ sym (accepted_first (layout_causes 64 l) cs tt n (told_by check_says c.check.ensures.answer c.in_ok-check.was))

pub returns-clause-meaning : goal.returns-clause-meaning
returns-clause-meaning c =
    let l = layout_of c.args.layout in
    let cs = no_exact 64 l c.args.size ∷ [] in
    let n = count_in 64 l.info c.args.size in means (exact_meets 64 l c.args.size (omega arith) (lit< tt)) (returns-clause-answer c)

pub returns-in_err-check-clause-answer : goal.returns-in_err-check-clause-answer
unfolding exact_for check_for
returns-in_err-check-clause-answer c =
    let l = layout_of c.args.layout in
    let cs = no_exact 64 l c.args.size ∷ [] in
    let n = count_in 64 l.info c.args.size in handed_on _ c.from_residual.result _ c.from_residual.ensures.1 (sym (refused_first (layout_causes 64 l) cs tt n (told_by check_says c.check.ensures.answer c.in_err-check.was)))

pub returns-in_err-check-clause-meaning : goal.returns-in_err-check-clause-meaning
returns-in_err-check-clause-meaning c =
    let l = layout_of c.args.layout in
    let cs = no_exact 64 l c.args.size ∷ [] in
    let n = count_in 64 l.info c.args.size in means (exact_meets 64 l c.args.size (omega arith) (lit< tt)) (returns-in_err-check-clause-answer c)
