-- `moves::test_records` meets its contract. Assumes nothing.
use Rattle.std.proofs.Common.{rules, ◌≡◌, length, sym, ap, ◌∙◌, arith}
use Rattle.std.proofs.Math.Nat.{div-eq_of_lt}
use Rattle.util_defs.proofs.Tables.{told_by}
use Rattle.util_defs.proofs.Mapped.{mapped_ok, mapped_err}
use Rattle.util.specs.View.{accepted, number_of}
use Rattle.util.proofs.Told.{handed_on_at}
use Rattle.util_defs.specs.Placed.{stopped}
use Rattle.layout.specs.View.{check_says}
use Rattle.short_defs.proofs.Lists.{one_more, test_on, test_off, test_end}
use Rattle.moves.proofs.test_records.Goals as goal

pub loop-i-preserved : goal.loop-i-preserved
loop-i-preserved g c =
    let h = c.in-Some.ensures.steps in
    let x = c.in-Some.record.now in
    let t = c.next.new.self.iter.rest.now in
    let v = c.loop-i.invariant in
    let l : length x ≡ g.W.RecordMove.way.from = h.0.1.1 ∙ v.0 in
    let n = one_more g.W.RecordMove.way.from x t g.met.W.RecordMove.proper.positive h.0.1.0 l in
    (h.0.0 ∙ v.0, sym (test_on g.W.RecordMove.way c.loop-i.i-iterator.count x t h.0.1.0 l n h.2 (told_by check_says (c.test.ensures l) (mapped_ok c.test.result _ _ c.map_err.ensures.cases c.in_ok-map_err.was))) ∙ v.1)

pub returns-in_err-map_err : goal.returns-in_err-map_err
returns-in_err-map_err g c =
    let h = c.in-Some.ensures.steps in
    let m = mapped_err c.test.result _ _ (λ e. record { refusal = e; place = c.in-Some.i }) (λ e q. search rules) c.map_err.ensures.cases c.in_err-map_err.was in
    let x = c.in-Some.record.now in
    let t = c.next.new.self.iter.rest.now in
    let v = c.loop-i.invariant in
    let l : length x ≡ g.W.RecordMove.way.from = h.0.1.1 ∙ v.0 in
    let n = one_more g.W.RecordMove.way.from x t g.met.W.RecordMove.proper.positive h.0.1.0 l in
    handed_on_at accepted c.from_residual.result _ c.from_residual.ensures.1
    (ap (λ k. stopped (number_of k.refusal) k.place) m.2 ∙ ap (stopped (number_of m.0)) h.1 ∙ sym (test_off g.W.RecordMove.way c.loop-i.i-iterator.count x t h.0.1.0 l n (told_by check_says (c.test.ensures l) m.1)) ∙ v.1)

pub returns : goal.returns
returns g c =
    let h = c.in-None.ensures.steps in
    let v = c.loop-i.invariant in
    sym (test_end g.W.RecordMove.way c.loop-i.i-iterator.count _ c.loop-i.i-iterator.iter.rest.now (div-eq_of_lt (omega (arith, h.0.1.0, v.0)))) ∙ v.1
