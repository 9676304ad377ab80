-- `layout::round_up_to` meets its contract. Assumes nothing.
use Rattle.std.proofs.Common.{◌≡◌, ◌+◌, ap, ◌∙◌, arith}
use Rattle.util_defs.specs.Round.{up}
use Rattle.util_defs.specs.Refusal.{answered}
use Rattle.util_defs.proofs.Powers.{positive}
use Rattle.util_defs.proofs.Rounding.{up_padding}
use Rattle.layout_defs.proofs.Passes.{within, past}
use Rattle.layout.proofs.round_up_to.Goals as goal

pub returns-then-padding-len : goal.returns-then-padding-len
returns-then-padding-len c =
    let a = c.args.align.value in
    let e = c.padding_needed-padding.ensures in
    let u = up_padding c.args.len a (positive c.args.align.power) in
    past 64 (up c.args.len a) (up c.args.len a) (omega arith)

pub returns-else-padding-len : goal.returns-else-padding-len
returns-else-padding-len c =
    let a = c.args.align.value in
    let e = c.padding_needed-padding.ensures in
    let u = up_padding c.args.len a (positive c.args.align.power) in
    let s : c.args.len + c.padding_needed-padding.result ≡ up c.args.len a = omega arith in
    ap answered s ∙ within 64 (up c.args.len a) (up c.args.len a) (omega arith)
