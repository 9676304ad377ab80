-- `working::with_member` meets its contract. Assumes nothing.
use mathlib.Core.Path.{sym, ◌∙◌}
use Rattle.util_defs.specs.Refusal.{answered}
use Rattle.compose_defs.proofs.Typed.{addition_value, addition_told}
use Rattle.working.proofs.with_member.Goals as goal

pub returns : goal.returns
returns g c =
    let told = addition_told g.W.Steps.bits (g.W.Steps.number c.args.repr_packed) (g.W.Steps.layout c.args.own) (answered (g.W.Steps.layout c.args.field))
    (c.extend.ensures ∙ sym (addition_value g.W.Steps.bits (g.W.Steps.number c.args.repr_packed) (g.W.Steps.layout c.args.own) (g.W.Steps.layout c.args.field))) in
    record { answer = told.0; meaning = told.1 }
