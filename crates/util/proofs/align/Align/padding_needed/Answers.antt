-- `util::Align::padding_needed` meets its contract. Assumes nothing.
use Rattle.std.proofs.Common.{◌+◌, ◌%◌, ◌^◌, arith}
use Rattle.util_defs.proofs.Masks.{mask_padding}
use Rattle.util.proofs.align.Align.padding_needed.Goals as goal

pub returns : goal.returns
returns c =
    let s = (c.args.len + 18446744073709551615) % 2 ^ 64 in
    mask_padding 64 c.args.len s c.args.self.power (omega arith) (omega arith) (omega arith)
