-- `sums::add_counts` meets its contract. Assumes nothing.
use mathlib.Core.Path.{◌≡◌, sym, ap, ◌∙◌}
use mathlib.Core.List.{List, map}
use Prim.Native.Nat.{ℕ, ◌<◌}
use native.Mathlib.Omega.{arith}
use lib.ListN.{get_or, length}
use Rattle.std.proofs.lemmas.List.{get_or-map, length-map}
use Rattle.util_defs.proofs.Tables.{told_by}
use Rattle.trailing.specs.View.{trailing_of}
use Rattle.share_defs.specs.Totals.{totals_from, add_count}
use Rattle.share_defs.proofs.Fold.{totals_on, totals_off, totals_end}
use Rattle.sums.specs.Bits.{bits_to}
use Rattle.sums.specs.View.{sums_of, add_says}
use Rattle.sums.proofs.add_counts.Goals as goal

-- the number of the count at i
seen : {T : Type 0} {n : ℕ} (f : T → ℕ) (xs : List T) (i : ℕ) (x : T) → i < length xs → x ≡ get_or xs i x → n ≡ f x → get_or (map f xs) i 0 ≡ n
seen f xs i x l e w = get_or-map f xs i x 0 l ∙ ap f (sym e) ∙ sym w

pub loop-i-init : goal.loop-i-init
loop-i-init g c = ap (totals_from (bits_to c.args.l.max) (trailing_of c.args.l.decoded.layout) 0 (map g.N.Count.number c.args.counts.now)) c.no_sums-x.ensures

pub returns-in-Err : goal.returns-in-Err
returns-in-Err g c =
    let w = bits_to c.args.l.max in
    let t = trailing_of c.args.l.decoded.layout in
    let f = g.N.Count.number in
    let xs = c.args.counts.now in
    let i = c.loop-i.i in
    let x = sums_of c.loop-i.x in
    let k = ap (λ n. add_count w t i n x) (seen f xs i c.index-counts-i.result c.loop-i-test.true c.index-counts-i.is c.wide.ensures) in
    sym (totals_off w t (map f xs) i x (omega (arith, length-map xs f, c.loop-i-test.true)) (k ∙ told_by add_says c.add_count.ensures c.in-Err.is)) ∙ c.loop-i.invariant

pub loop-i-preserved : goal.loop-i-preserved
loop-i-preserved g c =
    let w = bits_to c.args.l.max in
    let t = trailing_of c.args.l.decoded.layout in
    let f = g.N.Count.number in
    let xs = c.args.counts.now in
    let i = c.loop-i.i in
    let x = sums_of c.loop-i.x in
    let k = ap (λ n. add_count w t i n x) (seen f xs i c.index-counts-i.result c.loop-i-test.true c.index-counts-i.is c.wide.ensures) in
    sym (totals_on w t (map f xs) i x (sums_of c.in-Ok.next) (omega (arith, length-map xs f, c.loop-i-test.true)) (k ∙ told_by add_says c.add_count.ensures c.in-Ok.is)) ∙ c.loop-i.invariant

pub returns : goal.returns
returns g c =
    let f = g.N.Count.number in
    let xs = c.args.counts.now in
    sym (totals_end (bits_to c.args.l.max) (trailing_of c.args.l.decoded.layout) (map f xs) c.loop-i.i (sums_of c.loop-i.x) (omega (arith, length-map xs f))) ∙ c.loop-i.invariant
