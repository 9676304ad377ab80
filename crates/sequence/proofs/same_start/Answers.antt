-- `sequence::same_start` meets its contract. Assumes nothing.
use mathlib.Core.Path.{sym, ◌∙◌}
use native.Mathlib.Omega.{arith}
use Rattle.util_defs.proofs.Refusals.{told_false, agree, tells_eq, tells_as}
use Rattle.rounding.proofs.Words.{not_zero}
use Rattle.trailing.specs.View.{trailing_of}
use Rattle.trailing_defs.proofs.Sequences.{tells_start}
use Rattle.trailing.proofs.Told.{size_told, size_not}
use Rattle.sequence.proofs.same_start.Goals as goal

pub returns-in_default : goal.returns-in_default
returns-in_default c =
    let s = trailing_of c.args.first.layout in
    let n = size_not 64 s 0 c.size_for_elems.result (not_zero c.args.first.is_word) (omega arith) c.size_for_elems.ensures.meaning c.in_default.is in
    sym (told_false (tells_start 64 s (trailing_of c.args.other.layout)) (λ x. omega (arith, x.0)))

pub returns-in_default-size_for_elems : goal.returns-in_default-size_for_elems
returns-in_default-size_for_elems c =
    let t = trailing_of c.args.other.layout in
    let n = size_not 64 t 0 c.size_for_elems-2.result (not_zero c.args.other.is_word) (omega arith) c.size_for_elems-2.ensures.meaning c.in_default-size_for_elems.is in
    sym (told_false (tells_start 64 (trailing_of c.args.first.layout) t) (λ x. omega (arith, x.1.0)))

pub returns : goal.returns
returns c =
    let s = trailing_of c.args.first.layout in
    let t = trailing_of c.args.other.layout in
    let x = size_told 64 s 0 c.size_for_elems.result c.size_for_elems.ensures.meaning c.in-Ok.is in
    let y = size_told 64 t 0 c.size_for_elems-2.result c.size_for_elems-2.ensures.meaning c.in-Ok-size_for_elems.is in
    agree (tells_as (λ e. (x.0, (y.0, sym x.1 ∙ e ∙ y.1))) (λ z. x.1 ∙ z.1.1 ∙ sym y.1) (tells_eq c.in-Ok.first_size c.in-Ok-size_for_elems.other_size)) (tells_start 64 s t)
