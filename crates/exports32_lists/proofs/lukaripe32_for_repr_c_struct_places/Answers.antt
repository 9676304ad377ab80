-- `exports32_lists::lukaripe32_for_repr_c_struct_places` meets its contract. Assumes nothing.
use mathlib.Core.Path.{ap, ◌∙◌}
use Rattle.make.specs.Make.{empty_layout}
use Rattle.compose_defs.specs.Compose.{Composed}
use Rattle.compose_defs.specs.Places.{listed, places_of, gaps_of, written}
use Rattle.exports32_lists.specs.Lists.{composed_out32}
use Rattle.exports32_lists.proofs.lukaripe32_for_repr_c_struct_places.Goals as goal

pub returns-clause-value : goal.returns-clause-value
returns-clause-value c =
    c.from.ensures ∙ ap composed_out32 c.for_repr_c_struct_places-answer.ensures.answer

pub returns-clause-places_after : goal.returns-clause-places_after
returns-clause-places_after c =
    let s = c.args.members.now in c.for_repr_c_struct_places-answer.ensures.places ∙ ap (λ (o : Composed). written o (places_of c.args.repr_packed (empty_layout c.args.repr_align) (listed 32 s)) c.args.places.now) c.for_repr_c_struct_places-answer.ensures.answer

pub returns-clause-gaps_after : goal.returns-clause-gaps_after
returns-clause-gaps_after c =
    let s = c.args.members.now in c.for_repr_c_struct_places-answer.ensures.gaps ∙ ap (λ (o : Composed). written o (gaps_of c.args.repr_packed (empty_layout c.args.repr_align) (listed 32 s)) c.args.gaps.now) c.for_repr_c_struct_places-answer.ensures.answer
