-- `shift::Ported` compares as the ported mode does. Assumes nothing.
use mathlib.Core.Path.{◌∙◌}
use Rattle.trailing.specs.View.{trailing_of}
use Rattle.trailing_defs.proofs.Calls.{same_answered}
use Rattle.shift_defs.proofs.Matching.{same_from_lem}
use Rattle.shift.proofs.Told.{decision_told}
use Rattle.shift.proofs.PortedCompares.found.Goals as goal

pub returns : goal.returns
returns c =
    let s = trailing_of c.args.src.layout in
    let t = trailing_of c.args.other.layout in
    c.unwrap_or.ensures ∙ decision_told _ c.has_same_size_sequence.result (c.has_same_size_sequence.ensures.answer ∙ same_answered 64 s t c.args.src.has_word c.args.other.has_word) ∙ same_from_lem 64 s t
