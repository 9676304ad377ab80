-- `padding::pad_finer` meets its contract. Assumes nothing.
use Rattle.util.proofs.Told.{handed_on}
use mathlib.Core.Path.{sym, ap, ◌∙◌}
use mathlib.Core.List.{[], ◌∷◌}
use Prim.Native.Nat.{ℕ}
use Rattle.util_defs.specs.Round.{up}
use Rattle.util_defs.specs.Refusal.{answered}
use Rattle.util.specs.View.{number_says}
use Rattle.trailing.specs.View.{trailing_of}
use Rattle.layout_defs.specs.Layout.{trailing}
use Rattle.layout_defs.specs.Extend.{rounding_passes}
use Rattle.padding_defs.specs.Pad.{finer}
use Rattle.util_defs.proofs.Tables.{told_by, answer_is, accepted_as, refused_as}
use Rattle.padding.proofs.pad_finer.Goals as goal

pub returns : goal.returns
returns c =
    let cs = rounding_passes 64 (up c.args.tail.size_base c.args.align.value) ∷ [] in
    let e = told_by number_says c.round_up_to.ensures c.in_ok-size_base.was in
    ap (λ (b : ℕ). answered (trailing (record { offset = c.args.tail.offset; elem = c.args.tail.elem_size; base = b; word = c.args.tail.size_rounding_align_and_phase.0 })))
    (answer_is cs (up c.args.tail.size_base c.args.align.value) e)
    ∙ sym (accepted_as cs (up c.args.tail.size_base c.args.align.value) (trailing (finer c.args.align.value (trailing_of c.args.tail))) e)

pub returns-in_err-size_base : goal.returns-in_err-size_base
returns-in_err-size_base c =
    handed_on _ c.from_residual.result _ c.from_residual.ensures.1 (sym (refused_as (rounding_passes 64 (up c.args.tail.size_base c.args.align.value) ∷ []) (up c.args.tail.size_base c.args.align.value) (trailing (finer c.args.align.value (trailing_of c.args.tail)))
    (told_by number_says c.round_up_to.ensures c.in_err-size_base.was)))
