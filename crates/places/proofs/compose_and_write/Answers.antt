-- `places::compose_and_write` meets its contract. Assumes nothing.
use Rattle.compose.proofs.Told.{composed_on}
use Rattle.std.proofs.Common.{sym, refl, ap, ◌∙◌}
use Rattle.compose_defs.specs.Compose.{ported}
use Rattle.compose_defs.specs.Places.{listed}
use Rattle.compose.specs.View.{composed_says}
use Rattle.compose_defs.proofs.Written.{struct_on, composes_of}
use Rattle.compose_defs.specs.Compose.{Composed}
use Rattle.compose_defs.specs.Places.{written, places_of, gaps_of}
use Rattle.make.specs.Make.{empty_layout}
use Rattle.places.proofs.compose_and_write.Goals as goal

pub write_places-requires : goal.write_places-requires
write_places-requires g c = let s = c.args.members.now in (composes_of g.W.Steps.bits (g.W.Steps.number c.args.repr_align) (g.W.Steps.number c.args.repr_packed) (listed g.W.Steps.bits s) (sym (struct_on g.W.Steps.bits ported (g.W.Steps.number c.args.repr_align) (g.W.Steps.number c.args.repr_packed) s c.requires.0) ∙ sym c.for_repr_c_struct.ensures ∙ ap (composed_says g.W.Steps.layout) c.in_ok-l.was), c.requires.1)

pub returns-clause-result_value : goal.returns-clause-result_value
returns-clause-result_value g c = let s = c.args.members.now in sym (sym (struct_on g.W.Steps.bits ported (g.W.Steps.number c.args.repr_align) (g.W.Steps.number c.args.repr_packed) s c.requires.0) ∙ sym c.for_repr_c_struct.ensures ∙ ap (composed_says g.W.Steps.layout) c.in_ok-l.was)

pub returns-clause-places_after : goal.returns-clause-places_after
returns-clause-places_after g c = c.write_places.ensures.places_after

pub returns-clause-gaps_after : goal.returns-clause-gaps_after
returns-clause-gaps_after g c = c.write_places.ensures.gaps_after

pub returns-in_err-l-clause-result_value : goal.returns-in_err-l-clause-result_value
returns-in_err-l-clause-result_value g c = let s = c.args.members.now in composed_on _ c.from_residual.result _ c.from_residual.ensures.1 (sym (sym (struct_on g.W.Steps.bits ported (g.W.Steps.number c.args.repr_align) (g.W.Steps.number c.args.repr_packed) s c.requires.0) ∙ sym c.for_repr_c_struct.ensures ∙ ap (composed_says g.W.Steps.layout) c.in_err-l.was))

pub returns-in_err-l-clause-places_after : goal.returns-in_err-l-clause-places_after
returns-in_err-l-clause-places_after g c = sym (ap (λ (o : Composed). written o (places_of (g.W.Steps.number c.args.repr_packed) (empty_layout (g.W.Steps.number c.args.repr_align)) (listed g.W.Steps.bits c.args.members.now)) (g.W.Steps.numbers c.args.places.now)) (composed_on _ c.from_residual.result _ c.from_residual.ensures.1 refl))

pub returns-in_err-l-clause-gaps_after : goal.returns-in_err-l-clause-gaps_after
returns-in_err-l-clause-gaps_after g c = sym (ap (λ (o : Composed). written o (gaps_of (g.W.Steps.number c.args.repr_packed) (empty_layout (g.W.Steps.number c.args.repr_align)) (listed g.W.Steps.bits c.args.members.now)) (g.W.Steps.numbers c.args.gaps.now)) (composed_on _ c.from_residual.result _ c.from_residual.ensures.1 refl))
