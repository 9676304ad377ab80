-- `exports32_full::lukaripe32_normal_form` meets its contract. Assumes nothing.
use mathlib.Core.Path.{ap, ◌∙◌}
use Rattle.full_defs.specs.Form.{form_for}
use Rattle.exports32_full.specs.Forms.{form_out32}
use Rattle.exports32_full.proofs.lukaripe32_normal_form.Goals as goal

pub returns : goal.returns
returns c = c.from-2.ensures ∙ ap form_out32 (c.normal_form.ensures.answer ∙ ap (form_for 32) c.from.ensures)
