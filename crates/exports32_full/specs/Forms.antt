-- How a normal form at 32 bits crosses to C: the refusal number first, 0 where there is none, and the form, 0 where it was
-- refused. Assumes nothing.
use Rattle.util_defs.specs.Refusal.{Outcome, answered, refused}
use Rattle.full_defs.specs.Form.{Form}
use Rattle.exports32_full.specs.declared.NormalFormOut32.{NormalFormOut32}

abbrev pub form_out32 : Outcome Form → NormalFormOut32
form_out32 (answered f) = record { refusal = 0; size_base = f.base; elem_size = f.elem; word = f.word }
form_out32 (refused k) = record { refusal = k; size_base = 0; elem_size = 0; word = 0 }
