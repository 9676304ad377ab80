-- `guarantee32::convert_and_cast` meets its contract. Assumes nothing.
use Rattle.layout.specs.View.{layout_of}
use mathlib.Core.Path.{sym, ap, ◌∙◌, subst}
use lib.Dec.{lit<}
use Rattle.util_defs.specs.Refusal.{Outcome}
use Rattle.shift_defs.specs.Mode.{comparison_of}
use Rattle.shift.specs.View.{mode_of}
use Rattle.convert_defs.specs.Convert.{Params}
use Rattle.guarantee.specs.Demand.{count_after, Demand3Of}
use Rattle.guarantee.proofs.Demand.{demand_3_modes, same_answers}
use Rattle.guarantee32.proofs.convert_and_cast.Goals as goal

pub returns-clause-answer : goal.returns-clause-answer
returns-clause-answer c =
    let computed = c.try_compute-computed.ensures.answer in
    let count = c.converted_count-count.ensures ∙ ap (λ (o : Outcome Params). count_after 32 o c.args.src_meta) computed in
    let first = c.validate_cast_and_convert_metadata-first.ensures.answer in
    let e = same_answers computed count first c.validate_cast_and_convert_metadata-second.ensures.answer in
    e

pub returns-clause-meaning : goal.returns-clause-meaning
returns-clause-meaning c =
    let s = layout_of c.args.src_layout in
    let t = layout_of c.args.dst_layout in
    let m = mode_of c.args.mode in
    let computed = c.try_compute-computed.ensures.answer in
    let count = c.converted_count-count.ensures ∙ ap (λ (o : Outcome Params). count_after 32 o c.args.src_meta) computed in
    let first = c.validate_cast_and_convert_metadata-first.ensures.answer in
    let e = same_answers computed count first c.validate_cast_and_convert_metadata-second.ensures.answer in
    let h = c.try_compute-computed.ensures.fits in subst (Demand3Of 32 (comparison_of 32 m) s t c.args.src_meta c.args.addr c.args.bytes_len c.args.more_len) (sym e)
    (demand_3_modes 32 (lit< tt) m s t c.args.src_meta c.args.addr c.args.bytes_len c.args.more_len h.0 h.1)
