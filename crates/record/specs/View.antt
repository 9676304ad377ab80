-- What the types of this crate are, over numbers: document 01's number and values for each case of an answer. Assumes nothing.
use Rattle.std.specs.Prelude.{Result}
use Rattle.util.specs.View.{says, accepted}
use Rattle.util.specs.declared.refusal.Refusal.{Refusal}
use Rattle.util_defs.specs.Refusal.{Outcome, answered, refused}
use Rattle.record_defs.specs.Record.{Words}
use Rattle.record.specs.declared.Words as W

abbrev pub words_in : W.Words → Words
words_in r = record { align = r.align; kind = r.kind; size = r.size; offset = r.offset; elem = r.elem_size; word = r.word }

abbrev pub encode_says : Result (Unit {0}) Refusal → Outcome (Unit {0})
encode_says = says accepted
