-- `compose::add_to_sized` meets its contract. Assumes nothing.
use mathlib.Core.Path.{sym, ap, ◌∙◌}
use Prim.Native.Nat.{◌+◌, ◌-◌, ◌*◌, ◌/◌}
use native.Mathlib.Omega.{arith}
use lib.ListN.{length, take, drop}
use Rattle.std.proofs.Common.{rules}
use Rattle.util_defs.proofs.Mapped.{mapped_ok, mapped_err}
use Rattle.util.specs.View.{number_of}
use Rattle.compose_defs.specs.Compose.{composed, refused_at}
use Rattle.layout.proofs.Told.{sized_as}
use Rattle.compose.proofs.Told.{composed_on}
use Rattle.util_defs.specs.Refusal.{answered}
use Rattle.util_defs.proofs.Tables.{told_by}
use Rattle.layout.specs.View.{sized_of, layout_says}
use Rattle.record_defs.specs.Record.{decode_for}
use Rattle.compose_defs.specs.Compose.{member_step}
use Rattle.compose_defs.proofs.Compositions.{step_power, turn_on, turn_off, begun, ended}
use Rattle.compose.proofs.add_to_sized.Goals as goal

pub loop-i-init : goal.loop-i-init
loop-i-init c = (c.requires, begun 64 (member_step 64 c.args.heed c.args.repr_packed) (length c.args.members.now / 48) c.args.members.now (sized_of c.args.start))

pub sized_step-requires : goal.sized_step-requires
sized_step-requires c = c.loop-i.invariant.0

pub returns-in-SliceDst : goal.returns-in-SliceDst
returns-in-SliceDst c = let s = c.args.members.now in
    c.add_members.ensures ∙ sym (turn_on 64 (member_step 64 c.args.heed c.args.repr_packed) (length s / 48) c.loop-i.i-counter s (sized_of c.loop-i.own) c.loop-i-test.true (told_by layout_says c.sized_step.ensures (mapped_ok c.sized_step.result _ _ c.map_err.ensures.cases c.in_ok-next.was))) ∙ c.loop-i.invariant.1

pub returns-in_err-next : goal.returns-in_err-next
returns-in_err-next c = let s = c.args.members.now in
    let m = mapped_err c.sized_step.result _ _ (λ e. record { refusal = e; place = c.loop-i.i-counter }) (λ e q. search rules) c.map_err.ensures.cases c.in_err-next.was in
    composed_on _ c.from_residual.result _ c.from_residual.ensures.1
    (ap (λ k. refused_at (number_of k.refusal) k.place) m.2 ∙ sym (turn_off 64 (member_step 64 c.args.heed c.args.repr_packed) (length s / 48) c.loop-i.i-counter s (sized_of c.loop-i.own) c.loop-i-test.true (told_by layout_says c.sized_step.ensures m.1)) ∙ c.loop-i.invariant.1)

pub loop-i-preserved : goal.loop-i-preserved
loop-i-preserved c = let s = c.args.members.now in
    let at = c.loop-i.i-counter * 48 in
    let next = c.in_ok-next.next in
    let e = told_by layout_says c.sized_step.ensures (mapped_ok c.sized_step.result _ _ c.map_err.ensures.cases c.in_ok-next.was) ∙ ap answered (sym (c.with_size-own.ensures ∙ sized_as next c.in-Sized.is)) in
    (step_power 64 c.args.heed c.args.repr_packed (sized_of c.loop-i.own) (decode_for 64 (take (at + 48 - at) (drop at s))) c.loop-i.invariant.0 e, sym (turn_on 64 (member_step 64 c.args.heed c.args.repr_packed) (length s / 48) c.loop-i.i-counter s (sized_of c.loop-i.own) c.loop-i-test.true e) ∙ c.loop-i.invariant.1)

pub returns : goal.returns
returns c = let s = c.args.members.now in
    let i = c.loop-i.i-counter in
    ap composed c.from.ensures ∙ sym (ended 64 (member_step 64 c.args.heed c.args.repr_packed) (length s / 48) i (drop (i * 48) s) (sized_of c.loop-i.own) (omega arith)) ∙ c.loop-i.invariant.1
