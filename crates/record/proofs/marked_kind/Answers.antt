-- `record::marked_kind` meets its contract. Assumes nothing.
use native.Mathlib.Omega.{arith}
use Rattle.record.proofs.marked_kind.Goals as goal

pub returns-then-align_modifier : goal.returns-then-align_modifier
returns-then-align_modifier c = simp (c.if-unpadded.true, c.if-align_modifier.true) (omega arith)

pub returns-else-align_modifier : goal.returns-else-align_modifier
returns-else-align_modifier c = simp (c.if-unpadded.true, c.if-align_modifier.false) (omega arith)

pub returns-then-align_modifier-2 : goal.returns-then-align_modifier-2
returns-then-align_modifier-2 c = simp (c.if-unpadded.false, c.if-align_modifier-2.true) (omega arith)

pub returns-else-align_modifier-2 : goal.returns-else-align_modifier-2
returns-else-align_modifier-2 c = simp (c.if-unpadded.false, c.if-align_modifier-2.false) (omega arith)
