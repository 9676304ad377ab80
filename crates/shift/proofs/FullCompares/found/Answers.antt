-- `shift::Full` compares as the full mode does. Assumes nothing.
use mathlib.Core.Path.{sym, ◌∙◌}
use native.Mathlib.Omega.{arith}
use Rattle.util_defs.proofs.Refusals.{tells_true, told_false, agree, tells_as}
use Rattle.trailing.specs.View.{trailing_of}
use Rattle.trailing.proofs.Told.{size_told, size_not}
use Rattle.full_defs.specs.Full.{sizes_agree}
use Rattle.full_defs.proofs.Full.{agree_answered}
use Rattle.shift_defs.proofs.Matching.{tells_from}
use Rattle.shift.proofs.Told.{decision_told}
use Rattle.shift.proofs.FullCompares.found.Goals as goal

pub returns-in_default : goal.returns-in_default
returns-in_default c =
    let s = trailing_of c.args.src.layout in
    let n = size_not 64 s 0 c.size_for_elems.result c.args.src.has_word (omega arith) c.size_for_elems.ensures.meaning c.in_default.is in
    sym (told_false (tells_from 64 (sizes_agree 64) s (trailing_of c.args.other.layout)) (λ x. omega (arith, x.0)))

pub returns : goal.returns
returns c =
    let s = trailing_of c.args.src.layout in
    let t = trailing_of c.args.other.layout in
    let z = (size_told 64 s 0 c.size_for_elems.result c.size_for_elems.ensures.meaning c.in-Ok.is).0 in
    let b = c.unwrap_or.ensures ∙ decision_told _ c.sizes_agree.result (c.sizes_agree.ensures.answer ∙ agree_answered 64 s t c.args.src.has_word c.args.other.has_word) in
    agree (tells_as (λ x. (z, sym b ∙ x)) (λ x. b ∙ x.1) (tells_true c.unwrap_or.result)) (tells_from 64 (sizes_agree 64) s t)
