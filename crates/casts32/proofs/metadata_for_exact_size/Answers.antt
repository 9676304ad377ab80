-- `casts32::metadata_for_exact_size` meets its contract. Assumes nothing.
use Rattle.layout.specs.View.{layout_of}
use mathlib.Core.Path.{sym, ap, ◌∙◌}
use lib.Dec.{lit<}
use native.Mathlib.Omega.{arith}
use Rattle.layout_defs.specs.Layout.{Layout}
use Rattle.cast_defs.specs.Exact.{exact_for}
use Rattle.cast_defs.proofs.Exact.{exact_meets}
use Rattle.widths_defs.specs.Low.{mapped, low}
use Rattle.widths_casts_defs.proofs.Exact.{exact_low}
use Rattle.util_defs.proofs.Refusals.{means}
use Rattle.casts32.proofs.metadata_for_exact_size.Goals as goal

pub returns-clause-answer : goal.returns-clause-answer
returns-clause-answer c =
    let q = c.wide_layout.ensures in
    let l = layout_of c.args.layout in
    let s = c.args.size in c.low_number.ensures ∙ ap (mapped (low 32)) (c.metadata_for_exact_size.ensures.answer ∙ ap (λ (x : Layout). exact_for 64 x s) q.0)
    ∙ sym (exact_low 32 64 l s (omega arith) (lit< tt) q.1 (omega arith))

pub returns-clause-meaning : goal.returns-clause-meaning
returns-clause-meaning c =
    let q = c.wide_layout.ensures in
    let l = layout_of c.args.layout in
    let s = c.args.size in means (exact_meets 32 l s q.1.align (lit< tt)) (returns-clause-answer c)
