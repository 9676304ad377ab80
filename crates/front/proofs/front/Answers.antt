-- `front::front` meets its contract. Assumes nothing.
use mathlib.Core.Path.{sym, ap, subst, ◌∙◌}
use lib.ListN.{length}
use lib.Seq.{length-take-le}
use Rattle.front_defs.specs.Front.{Serves}
use Rattle.front_defs.proofs.Fronts.{within_map, within_spare, front_as}
use Rattle.front.specs.View.{serving_at}
use Rattle.front.specs.declared.Serving.{Serving}
use Rattle.front.proofs.front.Goals as goal

pub slice_bounds-result-end : goal.slice_bounds-result-end
slice_bounds-result-end g c =
    let serves =
    subst (λ (r : Serving g.row.W.Denot). Serves g.W.Steps.bits (g.W.Steps.layout c.args.layout) (g.W.Steps.number c.args.map_addr) (length c.args.map.now) (g.W.Steps.number c.args.spare_addr) (length c.args.spare.now) ((serving_at g.W.Steps.number) r))
    c.in-Map.is c.which_serves.ensures.meaning in
    rw c.wide.ensures (sym (length-take-le _ _ (within_map serves)))

pub slice_bounds-result-end-in-Spare : goal.slice_bounds-result-end-in-Spare
slice_bounds-result-end-in-Spare g c =
    let serves =
    subst (λ (r : Serving g.row.W.Denot). Serves g.W.Steps.bits (g.W.Steps.layout c.args.layout) (g.W.Steps.number c.args.map_addr) (length c.args.map.now) (g.W.Steps.number c.args.spare_addr) (length c.args.spare.now) ((serving_at g.W.Steps.number) r))
    c.in-Spare.is c.which_serves.ensures.meaning in
    rw c.wide-in-Spare.ensures (sym (length-take-le _ _ (within_spare serves)))

pub returns-in-Map : goal.returns-in-Map
returns-in-Map g c = let told_here = front_as g.W.Steps.bits (g.W.Steps.layout c.args.layout) (g.W.Steps.number c.args.map_addr) c.args.map.now (g.W.Steps.number c.args.spare_addr) c.args.spare.now _ c.which_serves.ensures.fits g.met.W.Casts.some
    (sym (ap (serving_at g.W.Steps.number) c.in-Map.is) ∙ c.which_serves.ensures.answer) in record { answer = rw c.wide.ensures told_here.0; meaning = rw c.wide.ensures told_here.1 }

pub returns-in-Spare : goal.returns-in-Spare
returns-in-Spare g c = let told_here = front_as g.W.Steps.bits (g.W.Steps.layout c.args.layout) (g.W.Steps.number c.args.map_addr) c.args.map.now (g.W.Steps.number c.args.spare_addr) c.args.spare.now _ c.which_serves.ensures.fits g.met.W.Casts.some
    (sym (ap (serving_at g.W.Steps.number) c.in-Spare.is) ∙ c.which_serves.ensures.answer) in record { answer = rw c.wide-in-Spare.ensures told_here.0; meaning = rw c.wide-in-Spare.ensures told_here.1 }

pub returns-in-Neither : goal.returns-in-Neither
returns-in-Neither g c = let told_here = front_as g.W.Steps.bits (g.W.Steps.layout c.args.layout) (g.W.Steps.number c.args.map_addr) c.args.map.now (g.W.Steps.number c.args.spare_addr) c.args.spare.now _ c.which_serves.ensures.fits g.met.W.Casts.some
    (sym (ap (serving_at g.W.Steps.number) c.in-Neither.is) ∙ c.which_serves.ensures.answer) in record { answer = told_here.0; meaning = told_here.1 }
