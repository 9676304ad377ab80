-- `front::which_serves` meets its contract. Assumes nothing.
use mathlib.Core.Path.{refl}
use Rattle.util_defs.proofs.Tables.{told_by}
use Rattle.util.specs.View.{says}
use Rattle.front.specs.View.{granted_at}
use Rattle.front_defs.proofs.Fronts.{serves_as}
use Rattle.front.proofs.which_serves.Goals as goal

pub returns-in-Ok : goal.returns-in-Ok
returns-in-Ok g c = let told_here = serves_as g.W.Steps.bits (g.W.Steps.layout c.args.layout) (g.W.Steps.number c.args.map_addr) c.args.map_len (g.W.Steps.number c.args.spare_addr) c.args.spare_len c.cast_bytes.ensures.fits g.met.W.Casts.some _ _
    (told_by (says (granted_at g.W.Steps.number)) c.cast_bytes.ensures.answer c.in-Ok.is) refl in record { answer = told_here.0; meaning = told_here.1; fits = c.cast_bytes.ensures.fits }

pub returns-in-Ok-cast_bytes : goal.returns-in-Ok-cast_bytes
returns-in-Ok-cast_bytes g c = let told_here = serves_as g.W.Steps.bits (g.W.Steps.layout c.args.layout) (g.W.Steps.number c.args.map_addr) c.args.map_len (g.W.Steps.number c.args.spare_addr) c.args.spare_len c.cast_bytes.ensures.fits g.met.W.Casts.some _ _
    (told_by (says (granted_at g.W.Steps.number)) c.cast_bytes.ensures.answer c.in-Err.is)
    (told_by (says (granted_at g.W.Steps.number)) c.cast_bytes-in-Err.ensures.answer c.in-Ok-cast_bytes.is) in record { answer = told_here.0; meaning = told_here.1; fits = c.cast_bytes.ensures.fits }

pub returns-in-Err-cast_bytes : goal.returns-in-Err-cast_bytes
returns-in-Err-cast_bytes g c = let told_here = serves_as g.W.Steps.bits (g.W.Steps.layout c.args.layout) (g.W.Steps.number c.args.map_addr) c.args.map_len (g.W.Steps.number c.args.spare_addr) c.args.spare_len c.cast_bytes.ensures.fits g.met.W.Casts.some _ _
    (told_by (says (granted_at g.W.Steps.number)) c.cast_bytes.ensures.answer c.in-Err.is)
    (told_by (says (granted_at g.W.Steps.number)) c.cast_bytes-in-Err.ensures.answer c.in-Err-cast_bytes.is) in record { answer = told_here.0; meaning = told_here.1; fits = c.cast_bytes.ensures.fits }
