-- `moves::write_records` meets its contract. Assumes nothing.
use Rattle.std.proofs.Common.{◌≡◌, ℕ, suc, List, ◌+◌, ◌-◌, ◌*◌, ◌/◌, ◌<◌, ◌≤◌, length, sym, ap, subst, ◌∙◌, arith}
use Rattle.std.proofs.Math.Nat.{mul-le-mul_right, suc-mul}
use Rattle.util_defs.specs.Placed.{reached, judged}
use Rattle.short_defs.specs.Moves.{moved_all, filled}
use Rattle.short_defs.proofs.Lists.{looked, looked_length, record_within, tested_each, writing_begins, writing_length, writing_on, writing_ends}
use Rattle.moves.proofs.write_records.Goals as goal

pub loop-i-init : goal.loop-i-init
loop-i-init g c = writing_begins g.W.RecordMove.way g.met.W.RecordMove.proper.whole (length c.args.records.now / c.FROM.result) c.args.records.now c.args.out.now

pub overflow_add-at : goal.overflow_add-at
overflow_add-at g c =
    let lt : c.loop-i.i < length c.args.records.now / g.W.RecordMove.way.from = subst (λ (n : ℕ). c.loop-i.i < length c.args.records.now / n) (c.FROM.ensures ∙ g.met.W.RecordMove.from_is) c.loop-i-test.true in
    let in_s = record_within g.W.RecordMove.way.from c.loop-i.i c.args.records.now lt in
    let k : c.loop-i.i * c.FROM-in-loop-i.result ≡ c.loop-i.i * g.W.RecordMove.way.from = ap (λ (n : ℕ). c.loop-i.i * n) (c.FROM-in-loop-i.ensures ∙ g.met.W.RecordMove.from_is) in
    let f2 : c.FROM-in-loop-i-2.result ≡ g.W.RecordMove.way.from = c.FROM-in-loop-i-2.ensures ∙ g.met.W.RecordMove.from_is in
    omega (arith, k, in_s, f2)

pub loop-i-preserved : goal.loop-i-preserved
loop-i-preserved g c =
    let lt : c.loop-i.i < length c.args.records.now / g.W.RecordMove.way.from = subst (λ (n : ℕ). c.loop-i.i < length c.args.records.now / n) (c.FROM.ensures ∙ g.met.W.RecordMove.from_is) c.loop-i-test.true in
    let in_s = record_within g.W.RecordMove.way.from c.loop-i.i c.args.records.now lt in
    let on : suc c.loop-i.i * g.W.RecordMove.way.to ≤ length c.args.records.now / g.W.RecordMove.way.from * g.W.RecordMove.way.to = mul-le-mul_right g.W.RecordMove.way.to lt in
    let room : length c.args.records.now / c.FROM.result * g.W.RecordMove.way.to ≤ length c.args.out.now = subst (λ (n : ℕ). length c.args.records.now / n * g.W.RecordMove.way.to ≤ length c.args.out.now) (sym (c.FROM.ensures ∙ g.met.W.RecordMove.from_is)) c.requires.1 in
    let l = writing_length g.W.RecordMove.way g.met.W.RecordMove.proper.whole room c.loop-i.invariant in
    let f1 : c.FROM-in-loop-i.result ≡ g.W.RecordMove.way.from = c.FROM-in-loop-i.ensures ∙ g.met.W.RecordMove.from_is in
    let f2 : c.FROM-in-loop-i-2.result ≡ g.W.RecordMove.way.from = c.FROM-in-loop-i-2.ensures ∙ g.met.W.RecordMove.from_is in
    let t1 : c.TO.result ≡ g.W.RecordMove.way.to = c.TO.ensures ∙ g.met.W.RecordMove.to_is in
    let t2 : c.TO-in-loop-i.result ≡ g.W.RecordMove.way.to = c.TO-in-loop-i.ensures ∙ g.met.W.RecordMove.to_is in
    let w = c.write.ensures (rw (f1, f2, t1, t2) ((looked_length g.W.RecordMove.way.from c.loop-i.i c.args.records.now in_s, looked_length g.W.RecordMove.way.to c.loop-i.i c.loop-i.out (omega (arith, on, suc-mul c.loop-i.i g.W.RecordMove.way.to, c.requires.1, l))), ap (λ (z : List ℕ). judged (g.W.RecordMove.way.causes z)) (looked g.W.RecordMove.way.from c.loop-i.i c.args.records.now) ∙ tested_each g.W.RecordMove.way 0 (length c.args.records.now / g.W.RecordMove.way.from) c.args.records.now c.requires.0 c.loop-i.i lt)) in
    rw (t1, t2) (writing_on g.W.RecordMove.way g.met.W.RecordMove.proper.whole c.args.records.now c.args.out.now (c.loop-i.i * g.W.RecordMove.way.to + g.W.RecordMove.way.to - c.loop-i.i * g.W.RecordMove.way.to) c.loop-i-test.true (omega arith) (w ∙ rw (f1, f2) (ap g.W.RecordMove.way.moved (looked g.W.RecordMove.way.from c.loop-i.i c.args.records.now))) c.loop-i.invariant)

pub returns : goal.returns
returns g c =
    writing_ends g.W.RecordMove.way g.met.W.RecordMove.proper.whole c.args.records.now c.args.out.now (omega arith) c.loop-i.invariant
    ∙ ap (λ (n : ℕ). filled (reached (moved_all g.W.RecordMove.way (length c.args.records.now / n) c.args.records.now)) c.args.out.now) (c.FROM.ensures ∙ g.met.W.RecordMove.from_is)
