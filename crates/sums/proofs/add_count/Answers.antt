-- `sums::add_count` meets its contract. Assumes nothing.
use mathlib.Core.Path.{sym}
use Prim.Native.Nat.{◌*◌}
use native.Mathlib.Omega.{arith}
use Rattle.util.proofs.Told.{product_told, product_past}
use Rattle.trailing.specs.View.{trailing_of}
use Rattle.share_defs.proofs.Told.{most_within, first_size, count_past, add_no_size}
use Rattle.sums.specs.Bits.{bits_to}
use Rattle.sums.specs.View.{sums_of}
use Rattle.sums.proofs.add_count.Goals as goal

pub returns-in_default : goal.returns-in_default
returns-in_default c = let t = trailing_of c.args.l.decoded.layout in
    let w = bits_to c.args.l.max in
    let o = product_past 64 (c.args.count * t.elem) c.checked_mul.result c.checked_mul.ensures c.in_default.is in
    sym (add_no_size w t c.args.i c.args.count (sums_of c.args.x) (first_size w t c.args.l.decoded.is_word c.args.l.holds c.args.l.room) (count_past w t c.args.l.decoded.is_word c.args.l.holds c.args.l.room c.args.count (omega (arith, most_within w t c.args.l.decoded.is_word c.args.l.holds c.args.l.room, c.args.l.is_width))))

pub returns-then-bytes-l : goal.returns-then-bytes-l
returns-then-bytes-l c = let t = trailing_of c.args.l.decoded.layout in
    let w = bits_to c.args.l.max in
    let o = product_told 64 (c.args.count * t.elem) c.checked_mul.result c.checked_mul.ensures c.in-Some.is in
    sym (add_no_size w t c.args.i c.args.count (sums_of c.args.x) (first_size w t c.args.l.decoded.is_word c.args.l.holds c.args.l.room) (count_past w t c.args.l.decoded.is_word c.args.l.holds c.args.l.room c.args.count (omega (arith, o.0))))

pub returns : goal.returns
returns c = let t = trailing_of c.args.l.decoded.layout in
    let o = product_told 64 (c.args.count * t.elem) c.checked_mul.result c.checked_mul.ensures c.in-Some.is in
    c.add_bytes.ensures c.args.count o.0
