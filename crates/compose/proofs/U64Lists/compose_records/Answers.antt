-- `compose::U64Lists::compose_records` meets its contract. Assumes nothing.
use mathlib.Core.Path.{sym, ◌∙◌}
use Prim.Native.Nat.{◌/◌}
use lib.ListN.{length}
use Rattle.std.proofs.Common.{rules, ap, subst, ◌≡◌, true}
use Rattle.util_defs.specs.Power.{power_of_two}
use Rattle.util_defs.specs.Refusal.{answered}
use Rattle.layout_defs.specs.Layout.{Layout}
use Rattle.util_defs.proofs.Mapped.{mapped_ok, mapped_err}
use Rattle.util_defs.proofs.Tables.{told_by}
use Rattle.util.specs.View.{number_of}
use Rattle.layout.specs.View.{layout_says}
use Rattle.compose_defs.specs.Compose.{refused_at, members_of}
use Rattle.compose_defs.proofs.Compositions.{begin_power, empty_is, members_on, members_off}
use Rattle.compose.proofs.Told.{composed_on}
use Rattle.compose.proofs.U64Lists.compose_records.Goals as goal

pub add_to_sized-requires : goal.add_to_sized-requires
add_to_sized-requires c =
    subst (λ (l : Layout). power_of_two 64 l.align ≡ true) (sym c.with_size.ensures)
    (begin_power 64 c.args.heed c.args.repr_align c.args.repr_packed (told_by layout_says c.begin.ensures (mapped_ok c.begin.result _ _ c.map_err.ensures.cases c.in_ok-empty.was)))

pub returns : goal.returns
returns c =
    let s = c.args.members.now in
    let e = told_by layout_says c.begin.ensures (mapped_ok c.begin.result _ _ c.map_err.ensures.cases c.in_ok-empty.was) in
    c.add_to_sized.ensures
    ∙ sym (members_on 64 c.args.heed c.args.repr_align c.args.repr_packed (members_of 64 (length s / 48) s) (e ∙ ap answered (sym (c.with_size.ensures ∙ empty_is 64 c.args.heed c.args.repr_align c.args.repr_packed e))))

pub returns-in_err-empty : goal.returns-in_err-empty
returns-in_err-empty c =
    let s = c.args.members.now in
    let m = mapped_err c.begin.result _ _ (λ e. record { refusal = e; place = 0 }) (λ e q. search rules) c.map_err.ensures.cases c.in_err-empty.was in
    composed_on _ c.from_residual.result _ c.from_residual.ensures.1
    (ap (λ k. refused_at (number_of k.refusal) k.place) m.2 ∙ sym (members_off 64 c.args.heed c.args.repr_align c.args.repr_packed (members_of 64 (length s / 48) s) (told_by layout_says c.begin.ensures m.1)))
