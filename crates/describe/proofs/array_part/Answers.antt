-- `describe::array_part` meets its contract. Assumes nothing.
use mathlib.Core.Path.{sym, ap, ◌∙◌}
use Rattle.util_defs.specs.Refusal.{Outcome}
use Rattle.util_defs.specs.Placed.{Placed, reached, at_place, go_on}
use Rattle.layout_defs.specs.Layout.{Layout}
use Rattle.describe_defs.specs.Heads.{made}
use Rattle.describe.specs.View.{stop_says}
use Rattle.describe_defs.specs.Describe.{Part}
use Rattle.width.specs.Width.{width_array}
use Rattle.describe.proofs.Ways.{handed_on_stop}
use Rattle.describe.proofs.array_part.Goals as goal

pub returns : goal.returns
returns g c =
    c.at_tag.ensures ∙ ap (λ (o : Outcome Layout). at_place c.args.tag o (λ l. reached (l, c.in_ok-read.read.next))) c.for_array.ensures
    ∙ sym (ap (λ (p : Placed Part). go_on p (made c.args.tag (λ l. width_array g.W.AtWidth.narrow l c.args.count))) (ap stop_says c.in_ok-read.was))

pub returns-in_err-read : goal.returns-in_err-read
returns-in_err-read g c =
    handed_on_stop c.from_residual.result _ c.from_residual.ensures.1 (sym (ap (λ (p : Placed Part). go_on p (made c.args.tag (λ l. width_array g.W.AtWidth.narrow l c.args.count))) (ap stop_says c.in_err-read.was)))
