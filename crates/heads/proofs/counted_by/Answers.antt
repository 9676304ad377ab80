-- `heads::counted_by` meets its contract. Assumes nothing.
use mathlib.Core.Path.{◌≡◌, ap}
use native.Mathlib.Omega.{arith}
use Rattle.describe_defs.specs.Describe.{tag_of}
use Rattle.heads.proofs.counted_by.Goals as goal

pub returns-then-tag-eq-LONG_STRUCT_TAG : goal.returns-then-tag-eq-LONG_STRUCT_TAG
returns-then-tag-eq-LONG_STRUCT_TAG c = ap tag_of c.if-tag-eq-LONG_STRUCT_TAG.true

pub returns-else-tag-eq-LONG_STRUCT_TAG : goal.returns-else-tag-eq-LONG_STRUCT_TAG
returns-else-tag-eq-LONG_STRUCT_TAG c = let e : c.args.tag ≡ 17 = omega (arith, c.requires.0, c.requires.1.0, c.requires.1.1, c.if-tag-eq-LONG_STRUCT_TAG.false) in ap tag_of e
