-- `places::land_record` meets its contract. Assumes nothing.
use Rattle.std.proofs.Common.{◌≡◌, sym, ◌∙◌, subst}
use Rattle.util_defs.specs.Refusal.{answered}
use Rattle.util_defs.proofs.Tables.{told_by, apart}
use Rattle.layout_defs.specs.Layout.{Layout}
use Rattle.util.specs.View.{says}
use Rattle.compose_defs.specs.Places.{Lands}
use Rattle.places.proofs.land_record.Goals as goal

same : {l m : Layout} → answered l ≡ answered m → l ≡ m
same e = cc

pub returns-in-Ok : goal.returns-in-Ok
returns-in-Ok g c = λ m e.
    let s = c.land.result in
    subst (λ (z : Layout). Lands g.W.Steps.bits c.args.repr_packed c.args.end z (g.W.Steps.number s.place) (g.W.Steps.number s.gap) s.end) (same (sym (told_by (says g.W.Steps.layout) c.decode.ensures c.in-Ok.is) ∙ e)) c.land.ensures

pub returns-in-Err : goal.returns-in-Err
returns-in-Err g c = λ m e. absurd (apart (sym (told_by (says g.W.Steps.layout) c.decode.ensures c.in-Err.is) ∙ e))
