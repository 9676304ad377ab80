-- `placing::step_mark` meets its contract. Assumes nothing.

use Rattle.placing.proofs.step_mark.Goals as goal

pub returns-then-field_unpadded : goal.returns-then-field_unpadded
returns-then-field_unpadded c = simp (c.if-unpadded.true, c.if-field_unpadded.true)
