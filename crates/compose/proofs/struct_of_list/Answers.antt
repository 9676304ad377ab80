-- `compose::struct_of_list` meets its contract. Assumes nothing.
use Rattle.compose.proofs.Told.{composed_on}
use mathlib.Core.Path.{sym, ap, ◌∙◌}
use Prim.Native.Nat.{◌/◌}
use lib.ListN.{length}
use Rattle.compose_defs.specs.Compose.{Composed, bind}
use Rattle.compose.specs.View.{composed_says}
use Rattle.compose_defs.proofs.Compositions.{closing, struct_closes}
use Rattle.compose.proofs.struct_of_list.Goals as goal

pub returns : goal.returns
returns g c =
    c.pad_composed.ensures
    ∙ sym (struct_closes g.W.Steps.bits c.args.heed (g.W.Steps.number c.args.repr_align) (g.W.Steps.number c.args.repr_packed) c.args.members.now
    ∙ ap (λ (o : Composed). bind o (closing g.W.Steps.bits (length c.args.members.now / 48))) (sym c.compose_list.ensures ∙ ap (composed_says g.W.Steps.layout) c.in_ok-l.was))

pub returns-in_err-l : goal.returns-in_err-l
returns-in_err-l g c =
    composed_on _ c.from_residual.result _ c.from_residual.ensures.1 (sym (struct_closes g.W.Steps.bits c.args.heed (g.W.Steps.number c.args.repr_align) (g.W.Steps.number c.args.repr_packed) c.args.members.now
    ∙ ap (λ (o : Composed). bind o (closing g.W.Steps.bits (length c.args.members.now / 48))) (sym c.compose_list.ensures ∙ ap (composed_says g.W.Steps.layout) c.in_err-l.was)))
