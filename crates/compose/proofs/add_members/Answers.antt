-- `compose::add_members` meets its contract. Assumes nothing.
use mathlib.Core.Path.{refl, sym, ◌∙◌}
use Prim.Native.Nat.{◌*◌, ◌/◌}
use native.Mathlib.Omega.{arith}
use lib.ListN.{length, drop}
use Rattle.std.proofs.Common.{rules, ap}
use Rattle.util_defs.proofs.Mapped.{mapped_ok, mapped_err}
use Rattle.util.specs.View.{number_of, says}
use Rattle.compose_defs.specs.Compose.{refused_at}
use Rattle.compose.proofs.Told.{composed_on}
use Rattle.util_defs.proofs.Tables.{told_by}
use Rattle.compose_defs.specs.Compose.{member_step}
use Rattle.compose_defs.proofs.Compositions.{turn_on, turn_off, ended}
use Rattle.compose.proofs.add_members.Goals as goal

pub loop-place-init : goal.loop-place-init
loop-place-init g c = refl

pub returns-in_err-l : goal.returns-in_err-l
returns-in_err-l g c =
    let s = c.args.members.now in
    let m = mapped_err c.member_step.result _ _ (λ e. record { refusal = e; place = c.loop-place.place-counter }) (λ e q. search rules) c.map_err.ensures.cases c.in_err-l.was in
    composed_on _ c.from_residual.result _ c.from_residual.ensures.1
    (ap (λ k. refused_at (number_of k.refusal) k.place) m.2 ∙ sym (turn_off g.W.Steps.bits (member_step g.W.Steps.bits c.args.heed (g.W.Steps.number c.args.repr_packed)) (length s / 48) c.loop-place.place-counter s (g.W.Steps.layout c.loop-place.l) c.loop-place-test.true (told_by (says g.W.Steps.layout) c.member_step.ensures m.1)) ∙ c.loop-place.invariant)

pub loop-place-preserved : goal.loop-place-preserved
loop-place-preserved g c =
    let s = c.args.members.now in
    sym (turn_on g.W.Steps.bits (member_step g.W.Steps.bits c.args.heed (g.W.Steps.number c.args.repr_packed)) (length s / 48) c.loop-place.place-counter s (g.W.Steps.layout c.loop-place.l) c.loop-place-test.true (told_by (says g.W.Steps.layout) c.member_step.ensures (mapped_ok c.member_step.result _ _ c.map_err.ensures.cases c.in_ok-l.was))) ∙ c.loop-place.invariant

pub returns : goal.returns
returns g c =
    let s = c.args.members.now in
    let i = c.loop-place.place-counter in
    sym (ended g.W.Steps.bits (member_step g.W.Steps.bits c.args.heed (g.W.Steps.number c.args.repr_packed)) (length s / 48) i (drop (i * 48) s) (g.W.Steps.layout c.loop-place.l) (omega arith)) ∙ c.loop-place.invariant
