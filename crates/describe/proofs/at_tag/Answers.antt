-- `describe::at_tag` meets its contract. Assumes nothing.
use Rattle.std.proofs.Common.{rules}
use mathlib.Core.Path.{sym, ap, ◌∙◌}
use Rattle.util_defs.proofs.Mapped.{mapped_ok, mapped_err}
use Rattle.util.specs.View.{number_of}
use Rattle.util_defs.specs.Refusal.{Outcome}
use Rattle.util_defs.specs.Placed.{reached, stopped, at_place}
use Rattle.layout_defs.specs.Layout.{Layout}
use Rattle.layout.specs.View.{layout_says}
use Rattle.describe.proofs.Ways.{handed_on_stop}
use Rattle.describe.proofs.at_tag.Goals as goal

pub returns : goal.returns
returns c =
    let e = mapped_ok c.args.answer _ _ c.map_err.ensures.cases c.in_ok-layout.was in
    sym (ap (λ (o : Outcome Layout). at_place c.args.tag o (λ l. reached (l, c.args.next))) (ap layout_says e))

pub returns-in_err-layout : goal.returns-in_err-layout
returns-in_err-layout c =
    let m = mapped_err c.args.answer _ _ (λ e. record { place = c.args.tag; refusal = e }) (λ e q. search rules) c.map_err.ensures.cases c.in_err-layout.was in
    handed_on_stop c.from_residual.result _ c.from_residual.ensures.1
    (ap (λ k. stopped (number_of k.refusal) k.place) m.2 ∙ sym (ap (λ (o : Outcome Layout). at_place c.args.tag o (λ l. reached (l, c.args.next))) (ap layout_says m.1)))
