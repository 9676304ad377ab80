-- `casts32::cast_bytes` meets its contract. Assumes nothing.
use Rattle.layout.specs.View.{layout_of}
use mathlib.Core.Path.{sym, ap, ap₂, ◌∙◌}
use Prim.Native.Nat.{ℕ}
use lib.Dec.{lit<}
use native.Mathlib.Omega.{arith}
use Rattle.layout_defs.specs.Layout.{Layout}
use Rattle.cast_defs.specs.Cast.{cast_for}
use Rattle.cast_defs.proofs.Grants.{cast_meets}
use Rattle.cast.specs.View.{side_of}
use Rattle.widths_defs.specs.Low.{mapped}
use Rattle.widths_casts_defs.specs.Low.{low_grant}
use Rattle.widths_casts_defs.proofs.Casting.{cast_low}
use Rattle.util_defs.proofs.Refusals.{means}
use Rattle.casts32.proofs.cast_bytes.Goals as goal

pub returns-clause-answer : goal.returns-clause-answer
returns-clause-answer c =
    let q = c.wide_layout.ensures in
    let l = layout_of c.args.layout in
    let side = side_of c.args.cast_type in
    let a = c.args.addr in
    let n = c.args.bytes_len in c.low_grant.ensures
    ∙ ap (mapped (low_grant 32))
    (c.validate_cast_and_convert_metadata.ensures.answer ∙ ap₂ (λ (x : Layout) (z : ℕ). cast_for 64 x side z n) q.0 c.far_address.ensures)
    ∙ sym (cast_low 32 64 l side a n (omega arith) (lit< tt) q.1 (omega arith))

pub returns-clause-meaning : goal.returns-clause-meaning
returns-clause-meaning c =
    let q = c.wide_layout.ensures in
    let l = layout_of c.args.layout in
    let side = side_of c.args.cast_type in
    let a = c.args.addr in
    let n = c.args.bytes_len in means (cast_meets 32 l side a n q.1.align (lit< tt)) (returns-clause-answer c)
