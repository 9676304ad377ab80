-- `exports_full::lukaripe_normal_form` meets its contract. Assumes nothing.
use mathlib.Core.Path.{ap, ◌∙◌}
use Rattle.full_defs.specs.Form.{form_for}
use Rattle.exports_full.specs.Forms.{form_out}
use Rattle.exports_full.proofs.lukaripe_normal_form.Goals as goal

pub returns : goal.returns
returns c = c.from-2.ensures ∙ ap form_out (c.normal_form.ensures.answer ∙ ap (form_for 64) c.from.ensures)
