-- `compose::pad_composed` meets its contract. Assumes nothing.
use Rattle.std.proofs.Common.{rules, ap, ◌∙◌}
use Rattle.util_defs.specs.Refusal.{Outcome}
use Rattle.util_defs.proofs.Mapped.{mapped}
use Rattle.layout_defs.specs.Layout.{Layout}
use Rattle.compose_defs.specs.Compose.{composed, and_then}
use Rattle.compose.proofs.Told.{placed_on}
use Rattle.compose.proofs.pad_composed.Goals as goal

pub returns : goal.returns
returns g c =
    let r = c.pad_to_align.result in
    let n = c.args.count in
    placed_on _ r _ n (mapped r _ _ (λ e. record { refusal = e; place = n }) (λ e k q. search rules) c.map_err.ensures.cases)
    ∙ ap (λ (o : Outcome Layout). and_then o n composed) c.pad_to_align.ensures
