-- `sums::add_bytes` meets its contract. Assumes nothing.
use mathlib.Core.Path.{◌≡◌, sym, ap₂, ◌∙◌}
use mathlib.Core.List.{[], ◌∷◌}
use Prim.Native.Nat.{ℕ, ◌+◌, ◌-◌, ◌*◌}
use native.Mathlib.Omega.{arith}
use Rattle.util_defs.specs.Refusal.{unless}
use Rattle.trailing.specs.View.{trailing_of}
use Rattle.share_defs.specs.Totals.{whole_padding, sum_passes, with_count}
use Rattle.share_defs.proofs.Told.{first_size, within_size, add_above, add_sized_lem}
use Rattle.sums.specs.Bits.{bits_to}
use Rattle.sums.specs.View.{sums_of}
use Rattle.sums.proofs.add_bytes.Goals as goal

pub returns-then-size-layout : goal.returns-then-size-layout
returns-then-size-layout c = λ n e.
    let t = trailing_of c.args.l.decoded.layout in
    let w = bits_to c.args.l.max in
    let s = c.size_of-size.ensures.1 n e in
    sym (add_above w t c.args.i n (sums_of c.args.x) (first_size w t c.args.l.decoded.is_word c.args.l.holds c.args.l.room) (within_size w t c.args.l.decoded.is_word c.args.l.holds c.args.l.room (n * t.elem) (omega arith)) (omega arith))

pub returns-then-past_offset-bytes : goal.returns-then-past_offset-bytes
returns-then-past_offset-bytes c = λ n e.
    let t = trailing_of c.args.l.decoded.layout in
    let w = bits_to c.args.l.max in
    let s = c.size_of-size.ensures.1 n e in
    sym (add_above w t c.args.i n (sums_of c.args.x) (first_size w t c.args.l.decoded.is_word c.args.l.holds c.args.l.room) (within_size w t c.args.l.decoded.is_word c.args.l.holds c.args.l.room (n * t.elem) (omega arith)) (omega arith))

pub returns : goal.returns
returns c = λ n e.
    let t = trailing_of c.args.l.decoded.layout in
    let w = bits_to c.args.l.max in
    let s = c.size_of-size.ensures.1 n e in
    let q : c.size_of-size.result - c.args.l.decoded.layout.offset - c.args.bytes ≡ whole_padding w t n = omega arith in
    c.add_sized.ensures
    ∙ ap₂ (λ (s q : ℕ). unless (sum_passes w (c.args.x.sizes + s) (c.args.x.paddings + q) ∷ []) (with_count c.args.i s q (sums_of c.args.x))) s q
    ∙ sym (add_sized_lem w t c.args.i n (sums_of c.args.x) (first_size w t c.args.l.decoded.is_word c.args.l.holds c.args.l.room) (within_size w t c.args.l.decoded.is_word c.args.l.holds c.args.l.room (n * t.elem) (omega arith)) (omega arith))
