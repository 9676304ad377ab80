-- `places::land` meets its contract. Assumes nothing.
use Rattle.util.specs.declared.refusal.Refusal.{Refusal}
use Rattle.std.specs.Prelude.{Result}
use Rattle.std.proofs.Common.{◌≡◌, ℕ, ◌+◌, ◌%◌, ◌^◌, sym, ap, ◌∙◌, subst}
use Rattle.util_defs.specs.Refusal.{Meets}
use Rattle.util_defs.proofs.Refusals.{answered_means}
use Rattle.util_defs.proofs.Tables.{told_by}
use Rattle.util.specs.View.{number_says}
use Rattle.layout_defs.specs.Extend.{LeastPlace, round_up_causes, round_up_for, member_align}
use Rattle.compose_defs.specs.Places.{end_of}
use Rattle.compose_defs.proofs.Landing.{landed, never_landed}
use Rattle.places.proofs.land.Goals as goal

pub overflow_sub-place : goal.overflow_sub-place
overflow_sub-place g c =
    let a = c.packed_align.result in
    let end = c.args.end in
    (answered_means (subst (λ (r : Result ℕ Refusal). Meets (round_up_causes 64 end a) (LeastPlace end a) (number_says r)) c.in-Ok.is c.round_up.ensures.meaning)).1.after

pub returns-in-Ok : goal.returns-in-Ok
returns-in-Ok g c =
    let m = g.W.Steps.layout c.args.field in
    let a : c.packed_align.result ≡ member_align m.align c.args.repr_packed = c.packed_align.ensures ∙ ap (λ (z : ℕ). member_align z c.args.repr_packed) (c.wide.ensures ∙ sym (g.met.W.Steps.aligned c.args.field)) in
    let b : c.wide-in-Ok.result ≡ end_of m.info = c.wide-in-Ok.ensures ∙ ap g.W.Steps.number c.end_of.ensures ∙ sym (g.met.W.Steps.ends c.args.field) in
    rw (c.low.ensures, c.low-in-Ok.ensures) (landed g.W.Steps.bits 64 c.args.repr_packed c.args.end m g.met.W.Steps.is_within
    (sym (ap (round_up_for 64 c.args.end) a) ∙ told_by number_says c.round_up.ensures.answer c.in-Ok.is)
    (ap (λ (z : ℕ). (c.in-Ok.place + z) % 2 ^ 64) b))

pub returns-in-Err : goal.returns-in-Err
returns-in-Err g c =
    let m = g.W.Steps.layout c.args.field in
    let a : c.packed_align.result ≡ member_align m.align c.args.repr_packed = c.packed_align.ensures ∙ ap (λ (z : ℕ). member_align z c.args.repr_packed) (c.wide.ensures ∙ sym (g.met.W.Steps.aligned c.args.field)) in
    never_landed g.W.Steps.bits 64 c.args.repr_packed c.args.end m _ _ _ g.met.W.Steps.is_within
    (sym (ap (round_up_for 64 c.args.end) a) ∙ told_by number_says c.round_up.ensures.answer c.in-Err.is)
